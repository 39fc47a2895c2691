-- The ways out of `new_name` and `read_name` (docs/FORMAT.md, "Finding bytes"). Assumes nothing.
use Rattle.std.proofs.Common.{◌≡◌, ℕ, zero, suc, ◌<◌, List, length, drop, sym, refl, ap, ◌∙◌, arith}
use Rattle.std.specs.Prelude.{Some, Option, None, Result, Ok, Err}
use Rattle.format.specs.Result.{done, ◌>>=◌}
use Rattle.format.specs.declared.Refusal.{Refusal}
use Rattle.format.specs.declared.Place.{Place}
use Rattle.format.specs.Section as section
use Rattle.format.specs.Section.{Section, cursor, until_zero, name_at}
use Rattle.format.specs.Tables.{string, rows, Tables, Room, find, as_kind, read_as}
use Rattle.format.specs.Rows.{place_of}
use Rattle.format.specs.Read.{name_from, read_name}
use Rattle.format.proofs.Results.{gone}
use Rattle.format.specs.Refusal.{outcome_by}
use Rattle.blocks.specs.Names.{meant_place}
use Rattle.blocks.specs.Pool.{pool_row, meant_cached, FindsAs, Stores}
use Rattle.blocks.specs.declared.pool.Stored.{Stored}
use Rattle.blocks.proofs.Storing.{after, put-fits, put-done, tables-done, tables-full}
use Rattle.read_bones.specs.Bones.{NewName, ReadsName}
use Rattle.read_bones.proofs.Pools.{found_again, unread-enter}

-- ---- places

pub place-some : (a n : ℕ) → 0 < a → place_of a n ≡ Some (record { address = a; size = n })
unfolding place_of
place-some zero n h = absurd (omega arith)
place-some (suc a) n h = refl

-- a name lies at its address
name-address : (s : Section) (va : ℕ) (p : section.Place) → name_at s va ≡ done p → p.address ≡ va
unfolding name_at
name-address s va p e =
    gone (cursor s va) (λ x. done (record { address = va; size = length (until_zero (drop x.offset x.half)) })) p e λ x f g.
    let i : record { address = va; size = length (until_zero (drop x.offset x.half)) } ≡ p = cc in
    sym (ap (λ (y : section.Place). y.address) i)

-- ---- a new name

module _ (sec : Section) (va : ℕ) {n : Result Place Refusal} (m : outcome_by meant_place n ≡ name_at sec va) (p₀ : List ℕ) where
  pub new_name-refused : {x : Refusal} → n ≡ Err x → NewName sec va (Err x) p₀ p₀
  unfolding name_from
  new_name-refused e =
      record {
        reads =
            λ room t at h u l.
            record { after = t.pool; answer = rw (sym m ∙ ap (outcome_by meant_place) e) refl; table = tt };
      }

  module _
      {pl : Place} (e : n ≡ Ok pl) {s : Result (Unit {0}) Refusal} {p : List ℕ} (w : Stores (pool_row va string pl.address pl.size) s p₀ p)
    where
      found : name_at sec va ≡ done (meant_place pl)
      found = sym m ∙ ap (outcome_by meant_place) e

      pub new_name-full : {y : Refusal} → s ≡ Err y → NewName sec va (Err y) p₀ p
      unfolding name_from
      new_name-full f =
          record {
            reads =
                λ room t at h u l.
                record {
                  after = t.pool;
                  answer = rw (found, tables-full room t va string (rows pl.address pl.size) w h f) refl;
                  table = tt;
                };
          }

      pub new_name-done : {v : Unit {0}} → s ≡ Ok v → NewName sec va (Ok pl) p₀ p
      unfolding name_from
      new_name-done f =
          record {
            reads =
                λ room t at h u l.
                let a : pl.address ≡ va = name-address sec va (meant_place pl) found in
                let o : 0 < pl.address = omega arith in
                record {
                  after = after w h;
                  answer =
                      rw (found, tables-done room t va string (rows pl.address pl.size) w h f)
                      (rw (place-some pl.address pl.size o) refl);
                  table =
                      record {
                        held = put-done w h f;
                        unread =
                            unread-enter room.pool at (pool_row va string pl.address pl.size) t.pool (put-fits w h f)
                            (record { bones = λ k. absurd (omega arith); names = λ k. o }) u;
                      };
                };
          }

-- ---- a name

pub no_name : {sec : Section} (va : ℕ) (p : List ℕ) → va ≡ 0 → ReadsName sec va (Ok (record { address = 0; size = 0 })) p p
unfolding read_name place_of
no_name va p e =
    record {
      reads =
          λ room t at h u. record { after = t.pool; answer = rw e refl; table = record { held = h; unread = u } };
    }

read_name_asks :
    (sec : Section) (room : Room) (va : ℕ) (t : Tables) → (va ≡ 0 → ⊥) →
    read_name sec room va t ≡ (read_as string va t >>= λ r. name_from sec room va t r)
unfolding read_name
read_name_asks sec room zero t h = absurd (h refl)
read_name_asks sec room (suc a) t h = refl

module _ {sec : Section} {va : ℕ} (pos : va ≡ 0 → ⊥) {p₀ : List ℕ} {o : Result (Option Stored) Refusal} (m : FindsAs p₀ string va o) where
  pub name-unread : {r : Result Place Refusal} {p : List ℕ} → o ≡ Ok None → NewName sec va r p₀ p → ReadsName sec va r p₀ p
  name-unread e n =
      record {
        reads =
            λ room t at h u.
            let d = n.reads room t at h u (omega (arith, pos)) in
            record {
              after = d.after;
              answer = read_name_asks sec room va t pos ∙ rw (sym (m.found h) ∙ ap meant_cached e) d.answer;
              table = d.table;
            };
      }

  pub name_again :
      {s : Stored} → o ≡ Ok (Some s) → ReadsName sec va (Ok (record { address = s.first; size = s.count })) p₀ p₀
  unfolding name_from
  name_again {s} e =
      let f = s.first in
      let c = s.count in
      record {
        reads =
            λ room t at h u.
            let g : as_kind string (find va t.pool) ≡ done (Some (rows f c)) = sym (m.found h) ∙ ap meant_cached e in
            let a = found_again string (find va t.pool) (rows f c) g in
            let l : 0 < f = rw a.stored at ((u.each va a.row a.here).names a.same) in
            record {
              after = t.pool;
              answer = read_name_asks sec room va t pos ∙ rw (g, place-some f c l) refl;
              table = record { held = h; unread = u };
            };
      }

  pub name-other : {x : Refusal} → o ≡ Err x → ReadsName sec va (Err x) p₀ p₀
  name-other e =
      record {
        reads =
            λ room t at h u.
            record {
              after = t.pool;
              answer = read_name_asks sec room va t pos ∙ rw (sym (m.found h) ∙ ap meant_cached e) refl;
              table = tt;
            };
      }
