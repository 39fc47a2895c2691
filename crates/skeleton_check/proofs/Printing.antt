-- What is printed for a section: the line of the check's answer, with the program's tables. Assumes nothing.
use Rattle.std.specs.Prelude.{Result, Ok, Err, Option, Some, None}
use Rattle.format.specs.declared.Refusal.{Refusal}
use Rattle.format.specs.Refusal.{outcome}
use Prim.Native.Nat.{ℕ, ◌≤◌, ◌<◌}
use native.Mathlib.Omega.{arith}
use lib.Dec.{T}
use lib.Ieee.Bits.{is_true}
use Rattle.format.specs.Result.{done}
use Rattle.format.specs.Section.{Section}
use Rattle.format.specs.Deriving.{derives}
use Rattle.format.proofs.Results.{gone, needed}
use Rattle.tables.proofs.Rooms.{derives_enough}
use mathlib.Core.Path.{◌≡◌, refl, sym, ap, subst, ◌∙◌}
use mathlib.Core.List.{List, []}
use borrow.Author.Tests.{le-leb, lt-leb}
use lib.ListN.{length, replicate}
use Rattle.format.specs.Layout.{base}
use Rattle.format.specs.Check.{Read, verdict, read, check_from, check}
use Rattle.format.specs.Program.{program_room, program_derive_room, report, printed}
use Rattle.format.specs.declared.Refusal.TheVariants.{TableTooShort}
use Rattle.blocks.specs.Places.{section}
use Rattle.read_chains.specs.Lent.{entry_room}
use Rattle.read.specs.Lent.{Lent, read_room}
use Rattle.tables.specs.Working.{Working, room_in}
use Rattle.verify.specs.Checks.{Checks}

-- ---- the program's tables

abbrev pub lent : Lent
lent =
    record {
      bones = replicate 16800 0;
      buckets = replicate 8192 0;
      entries = replicate 12288 0;
      inverse = replicate 12800 0;
      local = replicate 12800 0;
      parents = replicate 800 0;
      children = replicate 8192 0;
      pool = replicate 32768 0;
    }

abbrev pub working : Working
working =
    record {
      buckets = replicate 8192 0;
      entries = replicate 12288 0;
      inverse = replicate 12800 0;
      local = replicate 12800 0;
      parents = replicate 800 0;
      children = replicate 8192 0;
      pending = replicate 6408 0;
    }

room-is : read_room lent ≡ program_room
unfolding entry_room
room-is = refl

derive_room-is : room_in working ≡ program_derive_room
derive_room-is = refl

-- ---- the line

pub printed_long : {y : List ℕ} (s : List ℕ) → 65536 < length s → y ≡ report (outcome {A = Option ℕ} (Err TableTooShort)) → y ≡ printed s
unfolding printed
printed_long s h e = rw (lt-leb (length s) 65536 h) e

-- ---- no more bones are accepted than there are parents in the program's working tables

few_derived : (n : ℕ) → T (derives program_derive_room n) → n ≤ 800
few_derived n h = (derives_enough n 8192 12288 12800 12800 800 8192 6408 (is_true (derives program_derive_room n) h)).parents

few_judged : (r : Read) (n : ℕ) → verdict program_derive_room r ≡ done n → n ≤ 800
unfolding verdict
few_judged r n e =
    let s₁ = needed 1 _ _ n e in
    let s₂₁ = needed 21 _ _ n s₁.1 in
    let s₂₂ = needed 22 _ _ n s₂₁.1 in
    let s₂₃ = needed 23 _ _ n s₂₂.1 in
    let s₂₄ = needed 24 _ _ n s₂₃.1 in
    let s₂₅ = needed 25 _ _ n s₂₄.1 in
    let all : length r.bones ≡ n = sym (count s₂₅.1) in
    subst (λ (k : ℕ). k ≤ 800) all (few_derived (length r.bones) s₁.0)
  where
    count : {m : ℕ} → done m ≡ done n → n ≡ m
    count k = cc

pub few_accepted : (sec : Section) (n : ℕ) → check sec program_room program_derive_room base ≡ done (Some n) → n ≤ 800
unfolding check check_from
few_accepted sec n e = gone (read sec program_room base) (check_from program_derive_room) (Some n) e λ o e₁ e₂. from o e₂
  where
    from : (o : Option Read) → check_from program_derive_room o ≡ done (Some n) → n ≤ 800
    from None q = cc
    from (Some r) q =
        gone (verdict program_derive_room r) (λ m. done (Some m)) (Some n) q λ m e₁ e₂.
        let same : m ≡ n = cc in
        omega (arith, same, few_judged r m e₁)

-- ---- the program's check

module _ {s : List ℕ} {v : Result (Option ℕ) Refusal} {t : Lent} {x : Working} (m : Checks (section s []) base v lent t working x) where
  pub printed_checked : length s ≤ 65536 → report (outcome v) ≡ printed s
  unfolding printed
  printed_checked h =
      rw (le-leb (length s) 65536 h)
      (ap report (m.answer ∙ λ j. check (section s []) (room-is j) (derive_room-is j) base))

  pub few_checked : (n : ℕ) → v ≡ Ok (Some n) → n ≤ 800
  few_checked n e =
      few_accepted (section s []) n
      (sym (λ j. check (section s []) (room-is j) (derive_room-is j) base) ∙ sym m.answer ∙ ap outcome e)
