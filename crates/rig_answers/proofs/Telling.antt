-- What a status tells, by the outcome. Assumes nothing.
use mathlib.Core.Path.{◌≡◌, refl, sym, subst}
use Prim.Native.Nat.{ℕ}
use native.Mathlib.Omega.{arith}
use mathlib.Core.Bool.{Bool, true, false, not}
use Rattle.std.specs.Prelude.{Option, None, Some}
use mathlib.Core.List.{List}
use lib.Dec.{T}
use Rattle.format.specs.Result.{Res, refused, done}
use Rattle.format.specs.CallRefusals.{one_of, RefusesOnly}
use Rattle.rig_answers.specs.Answer.{read_status}
use Rattle.rig_answers.specs.Status.{Tells}

both : (b : Bool) → T (not b) → T b → ⊥
both true h k = h
both false h k = k

module _ (ns : List ℕ) (no0 : T (not (one_of 0 ns))) (no100 : T (not (one_of 100 ns))) where
  -- a number that is not in the list is no refusal's
  not_listed : (m n : ℕ) → T (not (one_of m ns)) → m ≡ n → T (one_of n ns) → ⊥
  not_listed m n h e k = both (one_of m ns) h (subst (λ x. T (one_of x ns)) (sym e) k)

  pub tells : {A : Type 0} (w : Res (Option A)) → RefusesOnly ns w → Tells ns w (read_status w)
  tells (done (Some a)) h =
      record {
        result = (λ e. record { value = a; is = refl }, λ e. refl);
        nothing = (λ e. absurd (omega (arith, e)), λ e. let z : ◌≡◌ {A = ℕ} 0 1 = cc in absurd (omega arith));
        refusal = λ n. (
          λ e. let z : ◌≡◌ {A = ℕ} 0 1 = cc in absurd (omega arith),
          λ p. absurd (not_listed 0 n no0 p.0 p.1),
        );
      }
  tells (done None) h =
      record {
        result = (λ e. absurd (omega (arith, e)), λ r. let q = r.is in let z : ◌≡◌ {A = ℕ} 0 1 = cc in absurd (omega arith));
        nothing = (λ e. refl, λ e. refl);
        refusal = λ n. (
          λ e. let z : ◌≡◌ {A = ℕ} 0 1 = cc in absurd (omega arith),
          λ p. absurd (not_listed 100 n no100 p.0 p.1),
        );
      }
  tells (refused c) h =
      record {
        result = (
          λ e. absurd (not_listed 0 c no0 (sym e) (h.only c refl)),
          λ r. let q = r.is in let z : ◌≡◌ {A = ℕ} 0 1 = cc in absurd (omega arith),
        );
        nothing = (
          λ e. absurd (not_listed 100 c no100 (sym e) (h.only c refl)),
          λ e. let z : ◌≡◌ {A = ℕ} 0 1 = cc in absurd (omega arith),
        );
        refusal = λ n. (λ e. let q : c ≡ n = cc in (q, h.only n e), λ p. let q = p.0 in cc);
      }
