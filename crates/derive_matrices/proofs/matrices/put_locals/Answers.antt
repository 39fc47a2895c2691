-- One row more.
use mathlib.Core.Path.{◌≡◌}
use native.Mathlib.Omega.{arith}
use lib.ListN.{length}
use Rattle.format.specs.Matrices.{local_of, locals}
use Rattle.derive_matrices.proofs.MatrixWords.{length-local}
use Rattle.derive_matrices.proofs.Placing.{placed-none, placed-more, placed-all}
use Rattle.derive_matrices.proofs.matrices.put_locals.Goals as goal

pub loop-p-init : goal.loop-p-init
loop-p-init g c = placed-none _ _

pub loop-p-preserved : goal.loop-p-preserved
loop-p-preserved g c =
    placed-more local_of length-local c.loop-p-test.true c.requires.1 c.loop-p.invariant
    c.local_words.ensures.answer c.put_matrix.ensures.rows

pub returns : goal.returns
unfolding locals
returns g c =
    let e : c.loop-p.p ≡ length c.args.bones.now = omega (arith, c.loop-p-test.false) in
    record { rows = placed-all e c.loop-p.invariant }
