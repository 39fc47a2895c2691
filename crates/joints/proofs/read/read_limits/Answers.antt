-- `joints::read::read_limits` meets its contract: the pointer, the bytes, the room, then the rows. Assumes nothing.
use borrow.Author.Rules.{rules}
use mathlib.Core.Path.{◌≡◌, refl}
use Prim.Native.Nat.{◌*◌}
use lib.ListN.{length}
use Rattle.blocks.specs.Places.{section_of}
use Rattle.joints.proofs.Reading.{reads_absent, limits_refused, reads_refused, reads_short, reads_taken}
use Rattle.joints.proofs.read.read_limits.Goals as goal

pub returns-then-va-eq0 : goal.returns-then-va-eq0
returns-then-va-eq0 g c =
    let s = g.met.L.Limit.sizes in
    let all =
    reads_absent g.L.Limit.row_of (section_of c.args.section) g.L.Limit.slots g.row.BYTES g.row.WORDS c.args.va c.args.count s.four s.slots_some
    s.words_some c.requires c.if-va-eq0.true in record { answer = all.0; table = all.1 }

pub returns-in_err-bytes : goal.returns-in_err-bytes
returns-in_err-bytes g c =
    let s = g.met.L.Limit.sizes in
    let e =
    limits_refused g.L.Limit.row_of (section_of c.args.section) g.L.Limit.slots g.row.BYTES g.row.WORDS c.args.va c.args.count s.four
    s.slots_some s.words_some c.requires c.if-va-eq0.false c.in_err-bytes.ensures.answer in
    let all =
    reads_refused g.L.Limit.row_of (section_of c.args.section) g.L.Limit.slots g.row.BYTES g.row.WORDS c.args.va c.args.count s.four
    s.slots_some s.words_some c.requires c.if-va-eq0.false c.in_err-bytes.ensures.answer in
    record { answer = rw e (search rules); table = all.1 }

pub returns-then-table-records : goal.returns-then-table-records
returns-then-table-records g c =
    let s = g.met.L.Limit.sizes in
    let all =
    reads_short g.L.Limit.row_of (section_of c.args.section) g.L.Limit.slots g.row.BYTES g.row.WORDS c.args.va c.args.count s.four s.slots_some
    s.words_some c.requires c.if-va-eq0.false c.in_ok-bytes.ensures.answer c.as_chunks.ensures.front_len c.if-table-records.true in
    record { answer = all.0; table = all.1 }

pub returns : goal.returns
returns g c =
    let s = g.met.L.Limit.sizes in
    let n : length c.load.new.rows ≡ g.row.WORDS * length c.as_chunks.result.0.now = search rules in
    let all =
    reads_taken g.L.Limit.row_of (section_of c.args.section) g.L.Limit.slots g.row.BYTES g.row.WORDS c.args.va c.args.count s.four s.slots_some
    s.words_some c.requires c.if-va-eq0.false c.in_ok-bytes.ensures.answer c.as_chunks.ensures.front_len c.if-table-records.false
    c.as_chunks.ensures.front c.load.ensures n refl in
    record { answer = all.0; table = all.1 }
