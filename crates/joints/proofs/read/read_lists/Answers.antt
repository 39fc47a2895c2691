-- `joints::read::read_lists` meets its contract: one list, then the other. Assumes nothing.
use borrow.Author.Rules.{rules}
use mathlib.Core.Path.{◌≡◌}
use lib.ListN.{length}
use Rattle.format.specs.Rows.{cleared}
use Rattle.blocks.specs.Places.{section_of}
use Rattle.joints.proofs.Reading.{lists_first, lists_second, lists_both}
use Rattle.joints.proofs.read.read_lists.Goals as goal

pub returns-in_err-rotations : goal.returns-in_err-rotations
returns-in_err-rotations c =
    let all =
    lists_first (section_of c.args.section) c.args.fields c.args.rotation.now c.args.translation.now c.in_err-rotations.ensures.answer
    c.read_limits.ensures.table c.requires.translation in
    record { answer = rw (← all.0) (search rules); rotation = all.1.0; translation = all.1.1 }

pub returns-in-Ok : goal.returns-in-Ok
returns-in-Ok c =
    let all =
    lists_both (section_of c.args.section) c.args.fields c.args.rotation.now c.args.translation.now c.in_ok-rotations.ensures.answer
    c.read_limits.ensures.table c.in-Ok.ensures.answer c.read_limits-2.ensures.table in
    record { answer = all.0; rotation = all.1.0; translation = all.1.1 }

pub returns-in-Err : goal.returns-in-Err
returns-in-Err c =
    let z : c.fill.new.self ≡ cleared (length c.args.rotation.now) = search rules in
    let all =
    lists_second (section_of c.args.section) c.args.fields c.args.rotation.now c.args.translation.now c.in_ok-rotations.ensures.answer
    c.in-Err.ensures.answer z c.read_limits-2.ensures.table in
    record { answer = all.0; rotation = all.1.0; translation = all.1.1 }
