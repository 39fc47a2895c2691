-- An answer that is no acceptance: each step leaves it as it is, and the reading's tables are cleared. Assumes nothing.
use Rattle.std.specs.Prelude.{Option, None, Some, Result, Ok, Err}
use Prim.Native.Nat.{ℕ}
use mathlib.Core.Path.{◌≡◌, refl}
use Rattle.format.specs.Result.{Res}
use Rattle.format.specs.Refusal.{outcome}
use Rattle.format.specs.declared.Refusal.{Refusal}
use Rattle.read.specs.Lent.{Lent, cleared_all}
use Rattle.check_steps.specs.Steps.{behind, kept_by}

pub record Ended (v : Result (Option ℕ) Refusal) : Type 0 where
  pub stays : (test : ℕ → Res (Unit {0})) → outcome v ≡ behind (outcome v) test
  pub clears : (t : Lent) → cleared_all t ≡ kept_by v t

pub ended : (v : Result (Option ℕ) Refusal) → ((n : ℕ) → v ≡ Ok (Some n) → ⊥) → Ended v
ended (Ok None) k = record { stays = λ test. refl; clears = λ t. refl }
ended (Ok (Some n)) k = absurd (k n refl)
ended (Err x) k = record { stays = λ test. refl; clears = λ t. refl }
