-- `joints::write::write` meets its contract (docs/FORMAT.md, "Joints and names"): each way out by what leads to it. Assumes nothing.
use borrow.Author.Rules.{rules}
use mathlib.Core.Path.{◌≡◌, ap, ◌∙◌}
use mathlib.Core.Bool.{true, false}
use mathlib.Core.List.{map}
use native.Mathlib.Omega.{arith}
use lib.ListN.{length}
use Rattle.format.specs.Joints.{rotation_row, ids_fit}
use Rattle.joints.proofs.Chunks.{length-limit_rows}
use Rattle.joints.proofs.Laying.{got_refused, got_done, many_limits, short_rotations, short_translations, wide_id, short_buffer, all_written}
use Rattle.joints.proofs.write.write.Goals as goal

pub returns-then-rotation-gt-MOST : goal.returns-then-rotation-gt-MOST
returns-then-rotation-gt-MOST c =
    let all =
    many_limits c.args.rotation.table.now c.args.rotation.count c.args.translation.table.now c.args.translation.count c.args.out.now
    c.then-rotation-gt-MOST.either in
    record { answer = all.0; buffer = all.1 }

pub returns-in_err-rotation : goal.returns-in_err-rotation
returns-in_err-rotation c =
    let g = got_refused 49 c.args.rotation.count c.args.rotation.table.now c.in_err-rotation.ensures in
    let all =
    short_rotations c.args.rotation.table.now c.args.rotation.count c.args.translation.table.now c.args.translation.count c.args.out.now
    (omega arith) (omega arith) g.0 in
    record { answer = rw (← all.0, ← g.1) (search rules); buffer = all.1 }

pub returns-in_err-translation : goal.returns-in_err-translation
returns-in_err-translation c =
    let f = got_done 49 c.args.rotation.count c.args.rotation.table.now c.in_ok-rotation.ensures in
    let g = got_refused 16 c.args.translation.count c.args.translation.table.now c.in_err-translation.ensures in
    let all =
    short_translations c.args.rotation.table.now c.args.rotation.count c.args.translation.table.now c.args.translation.count c.args.out.now
    (omega arith) (omega arith) f.0 g.0 in
    record { answer = rw (← all.0, ← g.1) (search rules); buffer = all.1 }

pub returns-then-not-ids_fit : goal.returns-then-not-ids_fit
returns-then-not-ids_fit c =
    let f = got_done 49 c.args.rotation.count c.args.rotation.table.now c.in_ok-rotation.ensures in
    let g = got_done 16 c.args.translation.count c.args.translation.table.now c.in_ok-translation.ensures in
    let e : ids_fit (map rotation_row c.in_ok-rotation.rotation.now) ≡ false = search rules in
    let all =
    wide_id c.args.rotation.table.now c.args.rotation.count c.args.translation.table.now c.args.translation.count c.args.out.now (omega arith)
    (omega arith) f.0 g.0 (rw f.1 at e) in
    record { answer = all.0; buffer = all.1 }

pub returns-then-out-size : goal.returns-then-out-size
returns-then-out-size c =
    let f = got_done 49 c.args.rotation.count c.args.rotation.table.now c.in_ok-rotation.ensures in
    let g = got_done 16 c.args.translation.count c.args.translation.table.now c.in_ok-translation.ensures in
    let e : ids_fit (map rotation_row c.in_ok-rotation.rotation.now) ≡ true = search rules in
    let nr = ap length f.1 ∙ length-limit_rows 49 c.args.rotation.count c.args.rotation.table.now in
    let nt = ap length g.1 ∙ length-limit_rows 16 c.args.translation.count c.args.translation.table.now in
    let all =
    short_buffer c.args.rotation.table.now c.args.rotation.count c.args.translation.table.now c.args.translation.count c.args.out.now
    (omega arith) (omega arith) f.0 g.0 (rw f.1 at e) (rw (nr, nt) at c.if-out-size.true) in
    record { answer = all.0; buffer = all.1 }

pub lay_section-requires-clause-few : goal.lay_section-requires-clause-few
lay_section-requires-clause-few c =
    let f = got_done 49 c.args.rotation.count c.args.rotation.table.now c.in_ok-rotation.ensures in
    let g = got_done 16 c.args.translation.count c.args.translation.table.now c.in_ok-translation.ensures in
    let nr = ap length f.1 ∙ length-limit_rows 49 c.args.rotation.count c.args.rotation.table.now in
    let nt = ap length g.1 ∙ length-limit_rows 16 c.args.translation.count c.args.translation.table.now in
    rw (nr, nt) (omega arith, omega arith)

pub returns : goal.returns
returns c =
    let f = got_done 49 c.args.rotation.count c.args.rotation.table.now c.in_ok-rotation.ensures in
    let g = got_done 16 c.args.translation.count c.args.translation.table.now c.in_ok-translation.ensures in
    let e : ids_fit (map rotation_row c.in_ok-rotation.rotation.now) ≡ true = search rules in
    let nr = ap length f.1 ∙ length-limit_rows 49 c.args.rotation.count c.args.rotation.table.now in
    let nt = ap length g.1 ∙ length-limit_rows 16 c.args.translation.count c.args.translation.table.now in
    let all =
    all_written c.args.rotation.table.now c.args.rotation.count c.args.translation.table.now c.args.translation.count c.args.out.now
    (omega arith) (omega arith) f.0 g.0 (rw f.1 at e) (rw (nr, nt) at c.if-out-size.false) in
    record { answer = rw (nr, nt) all.0; buffer = rw (nr, nt, c.lay_section.ensures, f.1, g.1) all.1 }
