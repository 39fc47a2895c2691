-- `lookup::lookup_in` meets its contract: the tag's pointer stands in the array. Assumes nothing.
use Prim.Native.Nat.{ℕ, zero, suc, ◌*◌, ◌%◌, ◌<◌}
use native.Mathlib.Nat.{mod-lt}
use native.Mathlib.Omega.{arith}
use mathlib.Core.Path.{◌≡◌, refl, ap}
use mathlib.Core.List.{List}
use lib.ListN.{length}
use Rattle.format.specs.Result.{done}
use Rattle.format.specs.Field.{field_at}
use Rattle.format.specs.Section.{Section, part}
use Rattle.format.specs.Lookup as Definitions
use Rattle.fields.proofs.Laws.{field_at-stands}
use Rattle.lookup.proofs.lookup_in.Goals as goal

bucket :
    (s : Section) (tag n va c : ℕ) (b : List ℕ) → (va ≡ 0 → ⊥) → (c ≡ 0 → ⊥) → done b ≡ part s va (8 * c) →
    length b ≡ 8 * c → Definitions.follow s tag n (field_at 8 b (8 * (tag % c))) ≡ Definitions.lookup_in s tag n va c
unfolding Definitions.lookup_in
bucket s tag n zero c b h k e l = absurd (h refl)
bucket s tag n (suc a) zero b h k e l = absurd (k refl)
bucket s tag n (suc a) (suc c) b h k e l =
    let m : tag % suc c < suc c = mod-lt tag (omega arith) in
    rw (← e) (ap (Definitions.follow s tag n) (field_at-stands 8 b (8 * (tag % suc c)) (omega arith)))

pub returns : goal.returns
returns c =
    let e = rw c.from.ensures at c.in_ok-pointers.ensures.answer in
    let l = rw c.from.ensures at c.in_ok-pointers.ensures.size in
    rw (c.follow.ensures, c.read-first.ensures.answer, c.from-2.ensures) (bucket _ _ _ _ _ _ c.if-va-eq0.false c.if-c-eq0.false e l)
