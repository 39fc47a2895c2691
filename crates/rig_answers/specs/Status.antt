-- What a status tells C and Rust of an outcome (docs/FORMAT.md, "Who can cause a refusal": "a status is 0, 100 for none, or the number").
-- `proofs/Telling.antt` proves it. Definitions only.
use Rattle.std.specs.Prelude.{◌≡◌, ◌↔◌, ℕ, not, List, T}
use Rattle.std.specs.Prelude.{Option, None, Some}
use Rattle.format.specs.Result.{Res, refused, done, status}
use Rattle.format.specs.CallRefusals.{one_of, RefusesOnly}
use Rattle.rig_answers.specs.Answer.{read_status}

-- the outcome is a result
pub record Result {A : Type 0} (w : Res (Option A)) : Type 0 where
  pub value : A
  pub is : w ≡ done (Some value)

-- the outcome of a call that has no none
abbrev pub sure : {A : Type 0} → Res A → Res (Option A)
sure (done a) = done (Some a)
sure (refused n) = refused n

-- r is the status of the outcome w of a call that refuses what is in the list
pub record Tells {A : Type 0} (ns : List ℕ) (w : Res (Option A)) (r : ℕ) : Type 0 where
  -- 0 exactly for a result
  pub result : (r ≡ 0) ↔ Result w
  -- 100 exactly for none
  pub nothing : (r ≡ 100) ↔ (w ≡ done None)
  -- else exactly the number of the refusal, one of the list
  pub refusal : (n : ℕ) → (w ≡ refused n) ↔ ((r ≡ n) × T (one_of n ns))

-- of any outcome, where 0 and 100 are no refusals
pub record Statuses : Type 1 where
  pub tells :
      {A : Type 0} (ns : List ℕ) → T (not (one_of 0 ns)) → T (not (one_of 100 ns)) → (w : Res (Option A)) → RefusesOnly ns w →
      Tells ns w (read_status w)
  pub tells_sure :
      {A : Type 0} (ns : List ℕ) → T (not (one_of 0 ns)) → T (not (one_of 100 ns)) → (w : Res A) → RefusesOnly ns w →
      Tells ns (sure w) (status w)
