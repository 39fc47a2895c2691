-- `joints::read::read` meets its contract (docs/FORMAT.md, "Joints and names"): each way out by what leads to it. Assumes nothing.
use borrow.Author.Rules.{rules}
use mathlib.Core.Path.{◌≡◌, ◌∙◌}
use lib.ListN.{length}
use Rattle.std.specs.Prelude.{Some}
use Rattle.format.specs.Refusal.{outcome_by}
use Rattle.format.specs.Rows.{cleared}
use Rattle.blocks.specs.Places.{section_of}
use Rattle.joints.specs.Reading.{joints_in}
use Rattle.joints.proofs.Reading.{part_size, cleared_again, reading_nothing, reading_refused, reading_lists, lists_named}
use Rattle.joints.proofs.read.read.Goals as goal

pub returns-then-root-eq0 : goal.returns-then-root-eq0
returns-then-root-eq0 c =
    let zr : c.fill.new.self ≡ cleared (length c.args.rotation.now) = search rules in
    let zs : c.fill-2.new.self ≡ cleared (length c.args.translation.now) = search rules in
    let all = reading_nothing (section_of c.args.section) c.args.root c.args.rotation.now c.args.translation.now c.if-root-eq0.true zr zs in
    record { answer = all.0; rotation = all.1.0; translation = all.1.1 }

pub returns-in_err-slice : goal.returns-in_err-slice
returns-in_err-slice c =
    let zr : c.fill.new.self ≡ cleared (length c.args.rotation.now) = search rules in
    let zs : c.fill-2.new.self ≡ cleared (length c.args.translation.now) = search rules in
    let all =
    reading_refused (section_of c.args.section) c.args.root c.args.rotation.now c.args.translation.now c.if-root-eq0.false
    c.in_err-slice.ensures.answer zr zs in
    record { answer = rw (← all.0) (search rules); rotation = all.1.0; translation = all.1.1 }

pub load_record-fields-requires : goal.load_record-fields-requires
load_record-fields-requires c = part_size (section_of c.args.section) c.args.root 52 c.in_ok-slice.ensures.answer

pub read_lists-requires : goal.read_lists-requires
read_lists-requires c =
    let zr : c.fill.new.self ≡ cleared (length c.args.rotation.now) = search rules in
    let zs : c.fill-2.new.self ≡ cleared (length c.args.translation.now) = search rules in
    record { rotation = cleared_again (length c.args.rotation.now) zr; translation = cleared_again (length c.args.translation.now) zs }

pub returns : goal.returns
returns c =
    let all =
    reading_lists (section_of c.args.section) c.args.root c.args.rotation.now c.args.translation.now c.if-root-eq0.false c.fill.new.self
    c.fill-2.new.self (λ a b. outcome_by (λ j. Some (joints_in a b j)) c.read_lists.result) c.in_ok-slice.ensures.answer c.fill.ensures.len
    c.fill-2.ensures.len (rw c.load_record-fields.ensures at c.read_lists.ensures.answer)
    (rw c.load_record-fields.ensures at c.read_lists.ensures.rotation) (rw c.load_record-fields.ensures at c.read_lists.ensures.translation) in
    record {
      answer = lists_named _ _ c.read_lists.result c.map.result (λ x k h. search rules) c.map.ensures.cases ∙ all.0;
      rotation = all.1.0;
      translation = all.1.1;
    }
