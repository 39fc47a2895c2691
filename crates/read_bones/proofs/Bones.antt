-- The ways out of `bone_from`, `new_bone` and `read_bone` (docs/FORMAT.md, "Records"). Assumes nothing.
use Rattle.std.proofs.Common.{◌≡◌, ℕ, suc, ◌+◌, ◌/◌, ◌%◌, ◌<◌, ◌≤◌, Bool, true, false, eqb, List, [], ◌∷◌, ◌++◌, length, sym, refl, ap, ◌∙◌, subst, arith, length-append, length-drop, length-take, take, drop, leb, leb-true, le-ltb, lt-ltb, eqb-true}
use Rattle.std.specs.Prelude.{Some, Option, None, Result, Ok, Err}
use Rattle.format.specs.Result.{refused, done, ◌>>=◌, need}
use Rattle.format.specs.Refusal.{number}
use Rattle.format.specs.declared.Refusal.{Refusal}
use Rattle.format.specs.declared.Place.{Place}
use Rattle.format.specs.Field.{or_zero, field, field_at}
use Rattle.format.specs.Section as section
use Rattle.format.specs.Section.{Section, Spot, window, in_half, spot, part}
use Rattle.format.specs.Bone as format
use Rattle.format.specs.Tables.{bone, rows, Tables, Room, with_pool, find, as_kind}
use Rattle.format.specs.Records.{bone_row, name_field}
use Rattle.format.specs.Rows.{place_of}
use Rattle.format.specs.Read.{Step, read_name, bone_from, read_bone}
use Rattle.format.proofs.Results.{gone}
use Rattle.fields.proofs.Laws.{field_at-stands}
use Rattle.blocks.specs.Pool.{pool_row, meant_cached, FindsAs, Stores}
use Rattle.blocks.specs.declared.pool.Stored.{Stored}
use Rattle.blocks.proofs.Storing.{after, put-fits, put-done, tables-done, tables-full}
use Rattle.rows.specs.Row.{has_row, put_row}
use Rattle.rows.specs.Value.{meant_bone}
use Rattle.rows.specs.declared.Bone.{Bone}
use Rattle.format.specs.Refusal.{outcome}
use Rattle.read_bones.specs.Lent.{leaving}
use Rattle.read_bones.specs.Bones.{bone_fields, name_step, NameTable, PoolLeft, NameLeft, ReadsName}
use Rattle.read_bones.specs.Bones.{Before, BoneFrom, NewBone, ReadsBone}
use Rattle.read_bones.specs.declared.bone.Row.{Row}
use Rattle.read_bones.proofs.Pools.{found_again, unread_later, unread-enter}
use Rattle.read_bones.proofs.Rows.{has_row_lt, lacks_row_le, row_added}

-- ---- bytes that stand

-- an address in one of the halves
spot-low : (s : Section) (va : ℕ) (p : Spot) → spot s va ≡ done p → va < 0x7000_0000
unfolding spot
spot-low s va p e = by (eqb (va / window) 5) (eqb (va / window) 6) refl refl e
  where
    by : (x y : Bool) → eqb (va / window) 5 ≡ x → eqb (va / window) 6 ≡ y → in_half x y s (va % window) ≡ done p → va < 0x7000_0000
    by true y f g d = let h = eqb-true (va / window) 5 f in omega arith
    by false true f g d = let h = eqb-true (va / window) 6 g in omega arith
    by false false f g d = let z : ◌≡◌ {A = ℕ} 0 1 = cc in absurd (omega arith)

pub part_stands : (s : Section) (va n : ℕ) (b : List ℕ) → part s va n ≡ done b → (length b ≡ n) × (va < 0x7000_0000)
unfolding part
part_stands s va n b e = gone (spot s va) _ b e λ p f g. by p f (leb (p.offset + n) (length p.half)) refl g
  where
    by :
        (p : Spot) → spot s va ≡ done p → (x : Bool) → leb (p.offset + n) (length p.half) ≡ x →
        (need 11 x >>= λ u. done (take n (drop p.offset p.half))) ≡ done b → (length b ≡ n) × (va < 0x7000_0000)
    by p f true i d =
        let j : take n (drop p.offset p.half) ≡ b = cc in
        let l : length (take n (drop p.offset p.half)) ≡ n =
        simp (length-take, length-drop) (omega (arith, leb-true (p.offset + n) (length p.half) i))
        in
        (ap length (sym j) ∙ l, spot-low s va p f)
    by p f false i d = let z : ◌≡◌ {A = ℕ} 0 1 = cc in absurd (omega arith)

-- the row that 70 bytes hold
row_of-bytes : (b : List ℕ) (n : Place) → length b ≡ 70 → bone_fields b n ≡ bone_row b (place_of n.address n.size)
unfolding bone_fields or_zero
row_of-bytes b n e = rw e refl

-- ---- a bone that was not read before

-- what the answer of `put_bone` tells of the test q
stored_not : (q : Bool) {n : ℕ} → refused n ≡ need 1 q → (q ≡ false) × (1 ≡ n)
stored_not true e = let z : ◌≡◌ {A = ℕ} 0 1 = cc in absurd (omega arith)
stored_not false e = let k : 1 ≡ _ = cc in (refl, k)

pub stored_is : (q : Bool) {u : Unit {0}} → done u ≡ need 1 q → q ≡ true
stored_is true e = refl
stored_is false e = let z : ◌≡◌ {A = ℕ} 0 1 = cc in absurd (omega arith)

row_as : {i j : ℕ} (t : Tables) → i ≡ j → ◌≡◌ {A = Step ℕ} (done (i, t)) (done (j, t))
row_as t e = ap (λ (k : ℕ). done (k, t)) e

module _
    (sec : Section) (bytes : List ℕ) (va used : ℕ) (b₀ : List ℕ) {p₀ : List ℕ} {nv : ℕ} {n : Result Place Refusal} {p₁ : List ℕ}
    (e : nv ≡ field_at 8 bytes 56) (nm : ReadsName sec nv n p₀ p₁)
  where
    named :
        (room : Room) (t : Tables) (at : ℕ) → Before room t at used b₀ p₀ → part sec va 70 ≡ done bytes →
        NameLeft (read_name sec room (name_field bytes) t) room.pool t at n p₁
    named room t at h s =
        let l : length bytes ≡ 70 = (part_stands sec va 70 bytes s).0 in
        let i : nv ≡ field 8 bytes 56 = e ∙ field_at-stands 8 bytes 56 (omega arith) in
        rw i at (nm.reads room t at h.lent.held h.unread)

    pub bone-name-refused : {x : Refusal} → n ≡ Err x → BoneFrom sec bytes va used (Err x) b₀ b₀ p₀ p₁
    unfolding bone_from
    bone-name-refused f =
        record {
          reads =
              λ room t at h s.
              let d = named room t at h s in
              record {
                bones = t.bones;
                pool = t.pool;
                answer = rw (s, d.answer ∙ ap (λ (y : Result Place Refusal). name_step y (with_pool d.after t)) f) refl;
                table = tt;
              };
        }

    module _ {pl : Place} (f : n ≡ Ok pl) where
      place_found :
          (room : Room) (t : Tables) (at : ℕ) (h : Before room t at used b₀ p₀) (s : part sec va 70 ≡ done bytes) →
          read_name sec room (name_field bytes) t ≡ done (place_of pl.address pl.size, with_pool (named room t at h s).after t)
      place_found room t at h s =
          let d = named room t at h s in
          d.answer ∙ ap (λ (y : Result Place Refusal). name_step y (with_pool d.after t)) f

      place-held :
          (room : Room) (t : Tables) (at : ℕ) (h : Before room t at used b₀ p₀) (s : part sec va 70 ≡ done bytes) →
          PoolLeft room.pool at (named room t at h s).after p₁
      place-held room t at h s =
          let d = named room t at h s in
          subst (λ (y : Result Place Refusal). NameTable y room.pool at d.after p₁) f d.table

      module _ (x : Result (Unit {0}) Refusal) (ex : outcome x ≡ need 1 (has_row b₀ used)) where
        pub bone_no_room : (b : List ℕ) {y : Refusal} → x ≡ Err y → BoneFrom sec bytes va used (Err y) b₀ b p₀ p₁
        unfolding bone_from
        bone_no_room b g =
            record {
              reads =
                  λ room t at h s.
                  let not = stored_not (has_row b₀ used) (sym (ap outcome g) ∙ ex) in
                  let l = lacks_row_le b₀ used not.0 in
                  let k : room.bones ≤ length t.bones = omega (arith, h.count, h.lent.rows.size) in
                  record {
                    bones = t.bones;
                    pool = t.pool;
                    answer = rw (s, place_found room t at h s, le-ltb (length t.bones) room.bones k) (ap refused not.1);
                    table = tt;
                  };
            }

        module _ {u : Unit {0}} (g : x ≡ Ok u) {s : Result (Unit {0}) Refusal} {p : List ℕ} (w : Stores (pool_row va bone used 1) s p₁ p) where
          room-left : (room : Room) (t : Tables) (at : ℕ) → Before room t at used b₀ p₀ → length t.bones < room.bones
          room-left room t at h =
              let l = has_row_lt b₀ used (stored_is (has_row b₀ used) (sym (ap outcome g) ∙ ex)) in
              omega (arith, h.count, h.lent.rows.size)

          pub bone-full : (b : List ℕ) → {y : Refusal} → s ≡ Err y → BoneFrom sec bytes va used (Err y) b₀ b p₀ p
          unfolding bone_from
          bone-full b i =
              record {
                reads =
                    λ room t at h st.
                    let d = named room t at h st in
                    let w' = subst (λ (k : ℕ). Stores (pool_row va bone k 1) s p₁ p) h.count w in
                    record {
                      bones = t.bones;
                      pool = t.pool;
                      answer =
                          rw (
                            st,
                            place_found room t at h st,
                            lt-ltb (length t.bones) room.bones (room-left room t at h),
                            tables-full room (with_pool d.after t) va bone (rows (length t.bones) 1) w'
                                (place-held room t at h st).held i,
                          )
                          refl;
                      table = tt;
                    };
              }

          module _ (y : Bone) (ey : meant_bone y ≡ bone_fields bytes pl) {b : List ℕ} (eb : b ≡ put_row b₀ used (meant_bone y)) where
            pub bone-done : {v : Unit {0}} → s ≡ Ok v → BoneFrom sec bytes va used (Ok (record { row = used; used = used + 1 })) b₀ b p₀ p
            unfolding bone_from
            bone-done i =
                record {
                  reads =
                      λ room t at h st.
                      let d = named room t at h st in
                      let new : format.Bone section.Place = bone_row bytes (place_of pl.address pl.size) in
                      let q = place-held room t at h st in
                      let stands = part_stands sec va 70 bytes st in
                      let w' = subst (λ (k : ℕ). Stores (pool_row va bone k 1) s p₁ p) h.count w in
                      let more : length (t.bones ++ (new ∷ [])) ≡ suc (length t.bones) = simp length-append (omega arith) in
                      let row : b ≡ put_row b₀ (length t.bones) new =
                      eb ∙ ap (λ (k : ℕ). put_row b₀ k (meant_bone y)) h.count
                      ∙ ap (λ (z : format.Bone section.Place). put_row b₀ (length t.bones) z)
                      (ey ∙ row_of-bytes bytes pl stands.0)
                      in
                      let has : has_row b₀ (length t.bones) ≡ true =
                      ap (λ (k : ℕ). has_row b₀ k) (sym h.count) ∙ stored_is (has_row b₀ used) (sym (ap outcome g) ∙ ex)
                      in
                      record {
                        bones = t.bones ++ (new ∷ []);
                        pool = after w' q.held;
                        answer =
                            rw (
                              st,
                              place_found room t at h st,
                              lt-ltb (length t.bones) room.bones (room-left room t at h),
                              tables-done room (with_pool d.after t) va bone (rows (length t.bones) 1) w' q.held i,
                            )
                            (row_as (leaving t (t.bones ++ (new ∷ [])) t.members (after w' q.held)) (sym h.count));
                        table =
                            record {
                              lent = record { rows = rw row (row_added new h.lent.rows has); held = put-done w' q.held i };
                              count = omega (arith, h.count, more);
                              new = λ l. record { own = h.count; more = more; low = stands.1 };
                              unread =
                                  λ to l k.
                                  unread-enter room.pool to (pool_row va bone (length t.bones) 1) d.after
                                  (put-fits w' q.held i)
                                  (record { bones = λ z. k; names = λ z. absurd (omega arith) })
                                  (unread_later q.unread to l);
                            };
                      };
                }

-- ---- `new_bone`

module _ {sec : Section} {va used : ℕ} {r : Result Row Refusal} {b₀ b p₀ p : List ℕ} where
  pub new_bone_in :
      {bytes : List ℕ} → done bytes ≡ part sec va 70 → BoneFrom sec bytes va used r b₀ b p₀ p → NewBone sec va used r b₀ b p₀ p
  new_bone_in e f = record { reads = λ room t at h. f.reads room t at h (sym e) }

pub new_bone_outside :
    {sec : Section} {va : ℕ} (used : ℕ) {x : Refusal} (b p : List ℕ) → refused (number x) ≡ part sec va 70 →
    NewBone sec va used (Err x) b b p p
unfolding bone_from
new_bone_outside used b p e =
    record { reads = λ room t at h. record { bones = t.bones; pool = t.pool; answer = rw (← e) refl; table = tt } }

-- ---- `read_bone`

module _ {sec : Section} {va used : ℕ} (b₀ : List ℕ) {p₀ : List ℕ} {o : Result (Option Stored) Refusal} (m : FindsAs p₀ bone va o) where
  pub bone-unread :
      {r : Result Row Refusal} {b p : List ℕ} → o ≡ Ok None → NewBone sec va used r b₀ b p₀ p → ReadsBone sec va used r b₀ b p₀ p
  unfolding read_bone
  bone-unread e n =
      record {
        reads =
            λ room t at h.
            let d = n.reads room t at h in
            record {
              bones = d.bones;
              pool = d.pool;
              answer = rw (sym (m.found h.lent.held) ∙ ap meant_cached e) d.answer;
              table = d.table;
            };
      }

  pub bone_again : {s : Stored} → o ≡ Ok (Some s) → ReadsBone sec va used (Ok (record { row = s.first; used = used })) b₀ b₀ p₀ p₀
  unfolding read_bone bone_from
  bone_again {s} e =
      let f = s.first in
      let c = s.count in
      record {
        reads =
            λ room t at h.
            let g : as_kind bone (find va t.pool) ≡ done (Some (rows f c)) = sym (m.found h.lent.held) ∙ ap meant_cached e in
            let a = found_again bone (find va t.pool) (rows f c) g in
            let before : va < at = (h.unread.each va a.row a.here).bones a.same in
            record {
              bones = t.bones;
              pool = t.pool;
              answer = rw g refl;
              table =
                  record {
                    lent = h.lent;
                    count = h.count;
                    new = λ l. absurd (omega arith);
                    unread = λ to l k. unread_later h.unread to l;
                  };
            };
      }

  pub bone-other : {x : Refusal} → o ≡ Err x → ReadsBone sec va used (Err x) b₀ b₀ p₀ p₀
  unfolding read_bone
  bone-other e =
      record {
        reads =
            λ room t at h.
            record {
              bones = t.bones;
              pool = t.pool;
              answer = rw (sym (m.found h.lent.held) ∙ ap meant_cached e) refl;
              table = tt;
            };
      }
