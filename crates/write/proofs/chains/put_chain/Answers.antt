-- `write::chains::put_chain` meets its contract. Assumes nothing.
use mathlib.Core.Path.{◌≡◌}
use Prim.Native.Nat.{suc, ◌+◌, ◌-◌, ◌*◌, ◌≤◌}
use native.Mathlib.Nat.{add-zero}
use native.Mathlib.Omega.{arith}
use lib.ListN.{length}
use Rattle.write.proofs.Linked.{row-word, chaining_room, chaining_more, chaining_all}
use Rattle.write.proofs.chains.put_chain.Goals as goal

pub put_entry-requires : goal.put_entry-requires
put_entry-requires c =
    let q : c.loop-next.next ≡ suc (c.loop-next.next - 1) = omega (arith, c.loop-next-test.true) in
    chaining_room (c.loop-next.next - 1) c.requires c.loop-next.invariant q

pub loop-next-smaller : goal.loop-next-smaller
loop-next-smaller c =
    let p = c.loop-next.next - 1 in
    let w = row-word c.args.entries.now c.as_chunks.ensures.front p 2 (omega (arith, c.loop-next.invariant.stands)) (omega arith) in
    omega (arith, w, c.requires.falls p)

pub loop-next-preserved : goal.loop-next-preserved
loop-next-preserved c =
    let p = c.loop-next.next - 1 in
    let q : c.loop-next.next ≡ suc p = omega (arith, c.loop-next-test.true) in
    let s : 3 * p + 3 ≤ length c.args.entries.now = omega (arith, c.loop-next.invariant.stands) in
    let tag = row-word c.args.entries.now c.as_chunks.ensures.front p 0 s (omega arith) in
    let position = row-word c.args.entries.now c.as_chunks.ensures.front p 1 s (omega arith) in
    let link = row-word c.args.entries.now c.as_chunks.ensures.front p 2 s (omega arith) in
    chaining_more p c.requires c.loop-next.invariant q link
    (rw (tag, position, add-zero (3 * p)) at c.put_entry.ensures.bytes)

pub returns : goal.returns
returns c = let all = chaining_all c.loop-next.invariant c.loop-next-test.false in record { end = all.0; bytes = all.1 }
