-- What each run wants of a table, as far as there is so much.
use Rattle.std.proofs.Common.{◌≡◌, ◌-◌, Bool, true, false, refl, sym, ap, ◌∙◌, min, length, arith}
use mir.Val.{bool_byte}
use lib.Dec.{eqb}
use Rattle.replay_sample.specs.declared.run.Run.{Run}
use Rattle.replay_sample.specs.Lent.{length_of, lent_of, either}
use Rattle.replay_sample.proofs.Numbers.{front_of, length_is}
use Rattle.replay_sample.proofs.run.lent.Goals as goal
use Rattle.replay_sample.proofs.run.lent.Goals.{in-Full, in-Longer, in-Short}

one_if : (b : Bool) → bool_byte b ≡ either b 1 0
unfolding either
one_if true = refl
one_if false = refl

pub returns : goal.returns
returns g c =
    let case = c.args.case.now in
    let most = length c.args.table.now in
    let size = length_of case c.args.t in
    let must = length_is case c.args.t most c.part.ensures.part c.number-length.ensures.answer in
    let of = λ (run : Run). lent_of case run c.args.t most in
    let is : c.min.result ≡ lent_of case c.args.run c.args.t most = elim c.match-run.branch [
      | in-Full w ↦
          (let less = w.from.ensures ∙ one_if (eqb 100 c.args.t) in
          let n : c.match-run.wanted ≡ size - either (eqb 100 c.args.t) 1 0 = omega (arith, less, must) in
          c.min.ensures ∙ ap (λ n. min n most) n ∙ sym (ap of w.in-Full.is))
      | in-Longer w ↦ (let all : c.min.result ≡ most = omega arith in all ∙ sym (ap of w.in-Longer.is))
      | in-Short w ↦
          (let less = w.from-in-Short.ensures ∙ one_if (eqb w.in-Short.short c.args.t) in
          let n : c.match-run.wanted ≡ size - either (eqb w.in-Short.short c.args.t) 1 0 = omega (arith, less, must) in
          c.min.ensures ∙ ap (λ n. min n most) n ∙ sym (ap of w.in-Short.is))
    ] in
    record { answer = front_of _ c.args.table.now (omega arith) is }
