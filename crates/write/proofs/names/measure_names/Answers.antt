-- `write::names::measure_names` meets its contract. Assumes nothing.
use native.Mathlib.Omega.{arith}
use Rattle.write.proofs.Naming.{measuring_bad, measuring_short, measuring_more, measuring_all}
use mathlib.Core.Path.{refl}
use Rattle.write.proofs.names.measure_names.Goals as goal

pub returns-then-not-good_name : goal.returns-then-not-good_name
returns-then-not-good_name c = record { answer = measuring_bad c.loop-row.invariant c.loop-row-test.true refl c.good_name.ensures.answer c.if-not-good_name.true }

pub name_bytes-total-requires : goal.name_bytes-total-requires
name_bytes-total-requires c = measuring_short c.loop-row.invariant c.loop-row-test.true refl c.good_name.ensures.answer c.if-not-good_name.false

pub overflow_add-total : goal.overflow_add-total
overflow_add-total c =
    let m = measuring_more c.loop-row.invariant c.loop-row-test.true refl c.good_name.ensures.answer c.if-not-good_name.false
    c.name_bytes-total.ensures.answer in
    record { fits = omega (arith, m.small, c.requires) }

pub loop-row-preserved : goal.loop-row-preserved
loop-row-preserved c =
    measuring_more c.loop-row.invariant c.loop-row-test.true refl c.good_name.ensures.answer c.if-not-good_name.false
    c.name_bytes-total.ensures.answer

pub returns : goal.returns
returns c = record { answer = measuring_all c.loop-row.invariant c.loop-row-test.false }
