-- The walk along a bucket's entries, by its cases (docs/FORMAT.md, "Lookup and check"). Assumes nothing.
use Prim.Native.Nat.{ℕ, zero, suc, ◌+◌, ◌-◌, ◌<◌}
use native.Mathlib.Omega.{arith}
use mathlib.Core.Path.{◌≡◌, refl}
use Rattle.std.specs.Prelude.{None}
use mathlib.Core.List.{List}
use lib.Dec.{eqb}
use Rattle.format.specs.Result.{Res, refused, done, ◌>>=◌}
use Rattle.format.specs.Section.{Section, part}
use Rattle.format.specs.Lookup.{follow, unless_found}
use Rattle.read_records.specs.Entry.{entry_in, entry_at}
use Rattle.read_records.specs.declared.entry.Entry.{Entry}

-- what is done with an entry's bytes is done with its fields
by_fields : {B : Type 0} (x : Res (List ℕ)) (k : Entry → Res B) → (x >>= λ b. k (entry_in b)) ≡ (x >>= (λ b. done (entry_in b)) >>= k)
by_fields (refused n) k = refl
by_fields (done b) k = refl

module _ (sec : Section) (tag : ℕ) where
  pub ends : (left at : ℕ) → at ≡ 0 → follow sec tag left at ≡ done None
  unfolding follow
  ends zero at e = rw e refl
  ends (suc left) at e = rw e refl

  pub too_long : (left at : ℕ) → left ≡ 0 → (at ≡ 0 → ⊥) → follow sec tag left at ≡ refused 14
  unfolding follow
  too_long left zero e h = absurd (h refl)
  too_long left (suc a) e h = rw e refl

  -- an entry that may be visited, of n of which i were
  pub visits :
      (n i at : ℕ) → i < n → (at ≡ 0 → ⊥) →
      follow sec tag (n - i) at
      ≡ (entry_at sec at >>= λ e. unless_found (eqb e.tag tag) e.position (follow sec tag (n - (i + 1)) e.next))
  unfolding follow entry_at
  visits n i zero l h = absurd (h refl)
  visits n i (suc a) l h =
      let k : n - i ≡ suc (n - (i + 1)) = omega arith in
      rw k
      (by_fields (part sec (suc a) 16)
      (λ e. unless_found (eqb e.tag tag) e.position (follow sec tag (n - (i + 1)) e.next)))
