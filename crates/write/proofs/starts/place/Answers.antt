-- `write::starts::place` meets its contract. Assumes nothing.
use native.Mathlib.Omega.{arith}
use Rattle.write.proofs.Placing.{block_size_le, room-local, room-parents, placed}
use Rattle.write.proofs.starts.place.Goals as goal

pub after-b4-requires : goal.after-b4-requires
after-b4-requires c = omega (arith, block_size_le c.args.n)

pub after-b5-requires : goal.after-b5-requires
after-b5-requires c = omega (arith, block_size_le c.args.n)

pub after-b6-requires : goal.after-b6-requires
after-b6-requires c = omega (arith, block_size_le c.args.n)

pub after-b7-requires : goal.after-b7-requires
after-b7-requires c =
    room-local _ _ _ _ _ _ _ _ _ _ c.block_size.ensures.answer c.after-b2.ensures.answer c.after-b3.ensures.answer
    c.after-b4.ensures.answer c.after-b5.ensures.answer c.after-b6.ensures.answer
    c.requires

pub after-b8-requires : goal.after-b8-requires
after-b8-requires c =
    room-parents _ _ _ _ _ _ _ _ _ _ c.block_size.ensures.answer c.after-b2.ensures.answer c.after-b3.ensures.answer
    c.after-b4.ensures.answer c.after-b5.ensures.answer c.after-b6.ensures.answer
    _ c.after-b7.ensures.answer c.requires

pub returns : goal.returns
returns c =
    record {
      answer =
          placed _ _ _ _ _ _ _ _ _ _ c.block_size.ensures.answer c.after-b2.ensures.answer c.after-b3.ensures.answer
          c.after-b4.ensures.answer c.after-b5.ensures.answer c.after-b6.ensures.answer
          _ c.after-b7.ensures.answer _ c.after-b8.ensures.answer;
    }
