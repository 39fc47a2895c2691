-- `cursors::in_turn` meets its contract: each read is told from the cursor that the one before it left. Assumes nothing.
use Rattle.cursors.specs.Turns.{in_turn, numbers_of}
use Rattle.cursors.proofs.in_turn.Goals as goal

pub returns : goal.returns
unfolding in_turn numbers_of
returns c =
    record {
      answer =
          rw (
            c.u8-byte.ensures.answer,
            c.u16-half.ensures.answer,
            c.i16-signed.ensures.answer,
            c.u32-word.ensures.answer,
            c.u64-long.ensures.answer,
            c.f32-float.ensures.answer,
            c.vec3-three.ensures.answer,
            c.vec4-four.ensures.answer,
            c.va.ensures.answer,
            c.check.ensures.answer,
            c.skip.ensures.cursor,
            c.vec4-four.ensures.cursor,
            c.vec3-three.ensures.cursor,
            c.f32-float.ensures.cursor,
            c.u64-long.ensures.cursor,
            c.u32-word.ensures.cursor,
            c.i16-signed.ensures.cursor,
            c.u16-half.ensures.cursor,
            c.u8-byte.ensures.cursor,
            c.new-c.ensures.answer,
          );
    }
