-- `fields::runs::load_all` meets its contract: blocks, and then the rest. Assumes nothing.
use mathlib.Core.Path.{◌≡◌, refl, ap, ◌∙◌}
use Prim.Native.Nat.{ℕ, ◌+◌, ◌-◌, ◌*◌}
use native.Mathlib.Nat.{mul-add}
use native.Mathlib.Omega.{arith}
use lib.ListN.{length, take, drop}
use mathlib.Core.List.{List}
use Rattle.format.specs.Field.{words}
use Rattle.fields.proofs.RunLaws.{values-none, values-part, values-rest, rest-sizes}
use Rattle.fields.proofs.runs.load_all.Goals as goal

-- the bytes of the block behind the first i
block : (k i : ℕ) (s : List ℕ) {m m' : ℕ} → m ≡ k → m' ≡ k → take (m' * (i + 16) - m * i) (drop (m * i) s) ≡ take (k * 16) (drop (k * i) s)
block k i s e f =
    let size : k * (i + 16) - k * i ≡ k * 16 = simp mul-add (omega arith) in
    rw (e, f, size) refl

pub loop-i-init : goal.loop-i-init
loop-i-init g c = values-none g.met.T.Pod.each_value g.T.Pod.SIZE (length c.args.t.now) c.args.s.now c.args.t.now refl

pub loop-i-preserved : goal.loop-i-preserved
loop-i-preserved g c =
    values-part g.met.T.Pod.each_value g.T.Pod.SIZE (length c.args.t.now) c.args.s.now c.loop-i.invariant 16 refl (omega arith)
    (omega arith) (omega (arith, c.loop-i-test.true)) refl
    (c.load_block.ensures
    ∙ ap (λ b. g.T.Pod.values (words g.T.Pod.SIZE 16 b))
    (block g.T.Pod.SIZE (16 * c.loop-i.i) c.args.s.now c.SIZE.ensures c.SIZE-in-loop-i.ensures))

pub load_each-requires : goal.load_each-requires
load_each-requires g c =
    rest-sizes g.T.Pod.SIZE (length c.args.t.now) _ c.args.s.now c.loop-i.t c.SIZE-2.ensures c.requires c.loop-i.invariant.same
    (omega arith)

pub returns : goal.returns
returns g c =
    values-rest g.met.T.Pod.each_value g.T.Pod.SIZE (length c.args.t.now) c.args.s.now c.loop-i.invariant c.SIZE-2.ensures
    (omega (arith, c.loop-i-test.false, c.loop-i.auto.i-end)) c.requires refl c.load_each.ensures
