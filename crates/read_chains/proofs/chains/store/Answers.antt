-- `read_chains::chains::store` meets its contract: three stores in a row of the table. Assumes nothing.
use Prim.Native.Nat.{◌*◌}
use native.Mathlib.Numerals.{add-one, add-two}
use native.Mathlib.Omega.{arith}
use lib.ListN.{length, length-set}
use Rattle.read_chains.proofs.Lent.{room-words, room_most}
use Rattle.read_chains.proofs.chains.store.Goals as goal

pub overflow_mul-at : goal.overflow_mul-at
overflow_mul-at c =
    let n = length c.args.entries.now in
    omega (arith, room-words n, room_most n)

pub offset_bounds-entries-at : goal.offset_bounds-entries-at
offset_bounds-entries-at c =
    let n = length c.args.entries.now in
    omega (arith, room-words n, room_most n)

pub bounds-entries-at : goal.bounds-entries-at
bounds-entries-at c =
    let n = length c.args.entries.now in
    omega (arith, room-words n, room_most n)

pub overflow_add-entries : goal.overflow_add-entries
overflow_add-entries c =
    let n = length c.args.entries.now in
    omega (arith, room-words n, room_most n)

pub offset_bounds-entries-at-2 : goal.offset_bounds-entries-at-2
offset_bounds-entries-at-2 c =
    let n = length c.args.entries.now in
    omega (arith, room-words n, room_most n)

pub bounds-entries-at-2 : goal.bounds-entries-at-2
bounds-entries-at-2 c =
    let n = length c.args.entries.now in
    simp length-set (omega (arith, room-words n, room_most n))

pub overflow_add-entries-2 : goal.overflow_add-entries-2
overflow_add-entries-2 c =
    let n = length c.args.entries.now in
    omega (arith, room-words n, room_most n)

pub offset_bounds-entries-at-3 : goal.offset_bounds-entries-at-3
offset_bounds-entries-at-3 c =
    let n = length c.args.entries.now in
    omega (arith, room-words n, room_most n)

pub bounds-entries-at-3 : goal.bounds-entries-at-3
bounds-entries-at-3 c =
    let n = length c.args.entries.now in
    simp length-set (omega (arith, room-words n, room_most n))

pub returns : goal.returns
returns c = let at = 3 * c.args.row in cc (add-one at, add-two at)
