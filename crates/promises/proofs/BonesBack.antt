-- The bones that the writer lays are read back: their rows, each a member of the block, with their names placed. Assumes nothing.
use mathlib.Core.Path.{◌≡◌, refl, sym, ap, ◌∙◌, subst}
use mathlib.Core.Logic.{◌⊎◌, inl, inr, ◌≢◌}
use Prim.Native.Nat.{ℕ, zero, suc, ◌+◌, ◌*◌, ◌^◌, ◌≤◌, ◌<◌}
use native.Mathlib.Nat.{le_refl, add_assoc, add-zero}
use native.Mathlib.Omega.{arith}
use Rattle.std.specs.Prelude.{Option, None, Some}
use mathlib.Core.List.{List, [], ◌∷◌, ◌++◌, flat_map, append_assoc, append-nil}
use lib.ListN.{length, length-append}
use lib.Dec.{leb, ltb, lt→ltb}
use Rattle.format.specs.Result.{done}
use Rattle.format.specs.Field.{Each, lay}
use Rattle.format.specs.Section.{Section, Place, window, part}
use Rattle.format.specs.Bone.{Bone, map_name}
use Rattle.format.specs.Chains.{up_from}
use Rattle.format.specs.Tables.{string, bone, Rows, rows, Pooled, pooled, Tables, tables, Room, with_pool, add_bone, find, put}
use Rattle.format.specs.Read.{name_from, read_name, bone_from, read_bone, read_bones}
use Rattle.format.specs.Layout.{Bytes, NamedBone, base, pointer, bone_items, ended_name, bone_bytes, all_names}
use Rattle.format.specs.Write.{no_zero}
use Rattle.format.proofs.Results.{met}
use Rattle.format.proofs.Names.{placed, name_back}
use Rattle.promises.specs.Meaning.{BoneFits}
use Rattle.promises.proofs.Lists.{both}
use Rattle.format.proofs.Parts.{At, at-fits, at_first, at_second, alone, part_at}
use Rattle.promises.proofs.LayoutParts.{pointer-fits, pointer_pos, length-bone_items}
use Rattle.promises.proofs.LayoutSize.{GoodName, GoodNames}
use Rattle.promises.proofs.Fresh.{Pooling, Goes, find-fresh, read_as-fresh, put-fresh, pooling_add}
use Rattle.promises.proofs.ChainsBack.{length-snoc}
use Rattle.promises.proofs.NamesBack.{placed_row, placed_rows}
use Rattle.promises.proofs.RecordsBack.{bone_read, bone-back, name_field-back}

-- ---- the pool beside the bones

-- an address below `lo`, or among the names that start at `names` and have been read up to `hi`
abbrev pub Clear : ℕ → ℕ → ℕ → ℕ → Type 0
Clear lo names hi a = (a < lo) ⊎ ((names ≤ a) × (a < hi))

clear_as : {lo names hi lo' hi' : ℕ} → lo ≤ lo' → hi ≤ hi' → (a : ℕ) → Clear lo names hi a → Clear lo' names hi' a
clear_as l h a (inl x) = inl (omega arith)
clear_as l h a (inr x) = inr (x.0, omega (arith, x.1))

-- an address from `lo` on that is no name's, or that no name has reached
not_clear : {lo names hi va : ℕ} → lo ≤ va → (va < names) ⊎ (hi ≤ va) → Clear lo names hi va → ⊥
not_clear l k (inl x) = omega arith
not_clear l (inl y) (inr x) = omega (arith, x.0)
not_clear l (inr y) (inr x) = omega (arith, x.1)

-- ---- one bone

-- a name at an address that nothing was pooled at
read_name-at :
    (sec : Section) (room : Room) (va : ℕ) (t : Tables) → va ≢ 0 → find va t.pool ≡ None →
    read_name sec room va t ≡ name_from sec room va t None
unfolding read_name
read_name-at sec room zero t z e = absurd (z refl)
read_name-at sec room (suc a) t z e = rw (read_as-fresh string (suc a) t e)

module _ (sys gfx : Bytes) (small : length sys < window) (room : Room) (names : ℕ) where
  name_goes :
      (off lo : ℕ) (nm : Option Bytes) (t : Tables) → GoodName nm → At sys off (ended_name nm) →
      Pooling (Clear lo names (base + off)) t.pool → lo ≤ names → names ≤ base + off → length t.pool < room.pool →
      Goes (read_name (alone sys gfx) room (pointer (base + off) (length (ended_name nm))) t)
      (λ ps. (map_name (placed (base + off)) nm, with_pool ps t)) (Clear lo names (base + off + length (ended_name nm)))
      (suc (length t.pool))
  unfolding ended_name read_name pointer name_from
  name_goes off lo None t g a c l n r =
      record {
        pool = t.pool;
        gives = refl;
        holds = subst (λ h. Pooling (Clear lo names h) t.pool) (sym (add-zero (base + off))) c;
        count = omega arith;
      }
  name_goes off lo (Some s) t g a c l n r =
      let va = base + off in
      let q = pooled va string (rows va (length s)) in
      let m : length (s ++ (0 ∷ [])) ≡ suc (length s) = length-snoc s 0 in
      let fresh = find-fresh (Clear lo names va) va t.pool c (not_clear (omega arith) (inr (le_refl va))) in
      record {
        pool = t.pool ++ (q ∷ []);
        gives = ap (λ v. read_name (alone sys gfx) room v t) (pointer_pos va (length (s ++ (0 ∷ []))) (λ z. omega (arith, z, m)))
            ∙ read_name-at (alone sys gfx) room va t (λ z. omega (arith, z)) fresh
            ∙ rw (name_back sys gfx small off s (both (leb (length s) 255) (no_zero s) g).1 a)
            (rw (put-fresh room va string (rows va (length s)) t fresh r));
        holds = pooling_add (Clear lo names va) (Clear lo names (va + length (s ++ (0 ∷ []))))
            (clear_as (le_refl lo) (omega arith)) q (inr (n, omega (arith, m))) t.pool c;
        count = omega (arith, length-append t.pool (q ∷ []));
      }

  -- what reading a bone whose name lies at an offset comes to
  abbrev pub BoneGoes : ℕ → ℕ → NamedBone → Tables → Type 0
  BoneGoes boff off b t =
      Goes (read_bone (alone sys gfx) room (base + boff) t)
      (λ ps. (length t.bones, add_bone (placed_row (base + off) b) (with_pool ps t)))
      (Clear (base + boff + 80) names (base + off + length (ended_name b.name))) (2 + length t.pool)

  pub bone_goes :
      (boff off : ℕ) (b : NamedBone) (rest : Bytes) (t : Tables) → BoneFits b → GoodName b.name →
      At sys boff (lay (bone_items b (pointer (base + off) (length (ended_name b.name)))) ++ rest) →
      At sys off (ended_name b.name) → base + boff + 80 ≤ names → names ≤ base + off →
      Pooling (Clear (base + boff) names (base + off)) t.pool → suc (length t.pool) < room.pool → length t.bones < room.bones →
      BoneGoes boff off b t
  unfolding read_bone bone_from
  bone_goes boff off b rest t f g a an l n c r m =
      stored (name_goes off (base + boff) b.name t g an c (omega arith) n (omega arith))
    where
      va : ℕ
      va = base + boff

      len : ℕ
      len = length (ended_name b.name)

      ptr : ℕ
      ptr = pointer (base + off) len

      fits : ptr < 256 ^ 8
      fits = pointer-fits (base + off) len (omega (arith, at-fits an))

      stands : part (alone sys gfx) va 70 ≡ done (bone_read b f ptr rest)
      stands = part_at sys gfx small 70 a (omega (arith, length-bone_items b ptr, length-append (lay (bone_items b ptr)) rest))

      fresh : (hi : ℕ) (ps : List Pooled) → Pooling (Clear va names hi) ps → find va ps ≡ None
      fresh hi ps h = find-fresh (Clear va names hi) va ps h (not_clear (le_refl va) (inl (omega arith)))

      row : Rows
      row = rows (length t.bones) 1

      from :
          (ps : List Pooled) {u : Tables} →
          read_name (alone sys gfx) room ptr t ≡ done (map_name (placed (base + off)) b.name, with_pool ps t) →
          put room va bone row (with_pool ps t) ≡ done u →
          read_bone (alone sys gfx) room va t ≡ done (length t.bones, add_bone (placed_row (base + off) b) u)
      from ps e₁ e₂ =
          rw (read_as-fresh bone va t (fresh (base + off) t.pool c))
          (rw stands
          (rw (name_field-back b f ptr rest fits)
          (rw e₁
          (met 1 (ltb (length t.bones) room.bones) _ (lt→ltb (length t.bones) room.bones m)
          ∙ rw e₂ (rw (bone-back b f ptr rest (map_name (placed (base + off)) b.name)))))))

      stored :
          Goes (read_name (alone sys gfx) room ptr t) (λ ps. (map_name (placed (base + off)) b.name, with_pool ps t))
          (Clear va names (base + off + len)) (suc (length t.pool)) →
          BoneGoes boff off b t
      stored k =
          let q = pooled va bone row in
          let unread = fresh (base + off + len) k.pool k.holds in
          let e = put-fresh room va bone row (with_pool k.pool t) unread (omega (arith, k.count)) in
          record {
            pool = k.pool ++ (q ∷ []);
            gives = from k.pool k.gives e;
            holds = pooling_add (Clear va names (base + off + len)) (Clear (va + 80) names (base + off + len))
                (clear_as (omega arith) (le_refl (base + off + len))) q (inl (omega arith)) k.pool k.holds;
            count = omega (arith, k.count, length-snoc k.pool q);
          }

-- ---- all the bones

-- the tables with more bones, each a member, and another pool
abbrev pub grown : Tables → List (Bone Place) → List Pooled → Tables
grown t rs ps = tables t.chained (t.bones ++ rs) (t.members ++ up_from (length t.bones) (length rs)) t.lists t.skeletons ps

pub grown_none : (t : Tables) → t ≡ grown t [] t.pool
unfolding up_from
grown_none t = λ i. tables t.chained (sym (append-nil t.bones) i) (sym (append-nil t.members) i) t.lists t.skeletons t.pool

grown_cons :
    (t : Tables) (r : Bone Place) (rs : List (Bone Place)) (ps qs : List Pooled) →
    grown (grown t (r ∷ []) ps) rs qs ≡ grown t (r ∷ rs) qs
unfolding up_from
grown_cons t r rs ps qs = λ i.
    tables t.chained (append_assoc t.bones (r ∷ []) rs i)
    ((append_assoc t.members (length t.bones ∷ []) (up_from (length (t.bones ++ (r ∷ []))) (length rs))
    ∙ ap (λ k. t.members ++ (length t.bones ∷ up_from k (length rs))) (length-snoc t.bones r)) i) t.lists t.skeletons qs

module _ (sys gfx : Bytes) (small : length sys < window) (room : Room) (names : ℕ) where
  -- what reading bones whose names lie from an offset on comes to
  abbrev pub BonesGo : ℕ → ℕ → List NamedBone → Tables → Type 0
  BonesGo boff off bs t =
      Goes (read_bones (alone sys gfx) room (length bs) (base + boff) t) (grown t (placed_rows (base + off) bs))
      (Clear (base + boff + 80 * length bs) names (base + off + length (all_names bs))) (length t.pool + 2 * length bs)

  -- the room for so many bones
  abbrev pub RoomFor : ℕ → Tables → Type 0
  RoomFor n t = (length t.bones + n ≤ room.bones) × (length t.pool + 2 * n ≤ room.pool)

  pub bones_go :
      (boff off : ℕ) (bs : List NamedBone) (t : Tables) → Each BoneFits bs → GoodNames bs →
      At sys boff (bone_bytes (base + off) bs) → At sys off (all_names bs) → base + boff + 80 * length bs ≤ names →
      names ≤ base + off → Pooling (Clear (base + boff) names (base + off)) t.pool → RoomFor (length bs) t → BonesGo boff off bs t
  unfolding read_bones bone_bytes all_names flat_map up_from
  bones_go boff off [] t f g a an l n c r =
      record {
        pool = t.pool;
        gives = ap done (grown_none t);
        holds = λ p x. clear_as (omega arith) (omega arith) p.address (c p x);
        count = omega arith;
      }
  bones_go boff off (b ∷ bs) t (f, fs) (g, gs) a an l n c r =
      rest
      (bone_goes sys gfx small room names boff off b (bone_bytes (base + off + len) bs) t f g a
      (at_first (ended_name b.name) (all_names bs) an) (omega arith) n c (omega (arith, r.1)) (omega (arith, r.0)))
      (λ u.
      bones_go (boff + 80) (off + len) bs u fs gs behind (at_second (ended_name b.name) (all_names bs) an) (omega arith)
      (omega arith))
    where
      len : ℕ
      len = length (ended_name b.name)

      on : base + off + len ≡ base + (off + len)
      on = add_assoc base off len

      behind : At sys (boff + 80) (bone_bytes (base + (off + len)) bs)
      behind =
          let ptr = pointer (base + off) len in
          subst (λ v. At sys (boff + 80) (bone_bytes v bs)) on
          (subst (λ k. At sys (boff + k) (bone_bytes (base + off + len) bs)) (length-bone_items b ptr)
          (at_second (lay (bone_items b ptr)) (bone_bytes (base + off + len) bs) a))

      rest :
          BoneGoes sys gfx small room names boff off b t →
          ((u : Tables) → Pooling (Clear (base + (boff + 80)) names (base + (off + len))) u.pool → RoomFor (length bs) u →
          BonesGo (boff + 80) (off + len) bs u) →
          BonesGo boff off (b ∷ bs) t
      rest k ih =
          let row = placed_row (base + off) b in
          let t₁ = grown t (row ∷ []) k.pool in
          let room₁ : RoomFor (length bs) t₁ = (omega (arith, r.0, length-snoc t.bones row), omega (arith, r.1, k.count)) in
          let g = ih t₁ (λ p x. clear_as (omega arith) (omega arith) p.address (k.holds p x)) room₁ in
          let both = length-append (ended_name b.name) (all_names bs) in
          record {
            pool = g.pool;
            gives = rw k.gives
                (ap (λ v. read_bones (alone sys gfx) room (length bs) v t₁) (add_assoc base boff 80) ∙ g.gives
                ∙ ap (λ v. done (grown t₁ (placed_rows v bs) g.pool)) (sym on)
                ∙ ap done (grown_cons t row (placed_rows (base + off + len) bs) k.pool g.pool));
            holds = λ p x. clear_as (omega arith) (omega (arith, both)) p.address (g.holds p x);
            count = omega (arith, k.count, g.count);
          }
