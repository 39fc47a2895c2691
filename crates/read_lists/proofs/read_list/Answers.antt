-- `read_lists::read_list` meets its contract: by the way that the pool leads. Assumes nothing.
use mathlib.Core.Path.{refl}
use Rattle.std.proofs.Common.{rules}
use Rattle.std.proofs.lemmas.Result.{err_from_is_err_and}
use Rattle.blocks.specs.Places.{section_of}
use Rattle.read_lists.proofs.Reading.{named_as, reads_copy, reads_over, reads-new-refused, reads-new}
use Rattle.read_lists.proofs.read_list.Goals as goal

pub returns-in-Copy : goal.returns-in-Copy
returns-in-Copy g c =
    rw (named_as c.copy_list.result c.map.result (λ x k h. search rules) c.map.ensures.cases)
    (record {
      list =
          reads_copy (section_of c.args.section) (g.K.ListKind.table c.args.which) c.args.va c.args.n c.args.used _
          c.if-va-eq0.false c.table-table.ensures c.way_of.ensures.answer
          g.met.K.Word.Pod.each_number (g.met.K.ListKind.width_of c.args.which) (g.met.K.ListKind.row_of c.args.which)
          (g.met.K.ListKind.rows_of c.args.which) c.args.own.now c.in-Copy.is c.copy_list.ensures.list refl;
    })

pub returns-in-Over : goal.returns-in-Over
returns-in-Over g c =
    rw (named_as c.new_list.result c.map-in-Over.result (λ x k h. search rules) c.map-in-Over.ensures.cases)
    (record {
      list =
          reads_over (section_of c.args.section) (g.K.ListKind.table c.args.which) c.args.va c.args.n c.args.used _
          c.if-va-eq0.false c.table-table.ensures c.way_of.ensures.answer
          g.met.K.Word.Pod.each_number (g.met.K.ListKind.width_of c.args.which) (g.met.K.ListKind.row_of c.args.which)
          (g.met.K.ListKind.rows_of c.args.which) c.args.own.now c.new_list.ensures.list c.in-Over.is refl;
    })

pub returns-in_err-list-in-New : goal.returns-in_err-list-in-New
returns-in_err-list-in-New g c =
    let p = err_from_is_err_and c.from_residual.result c.from_residual.ensures.1 in
    rw (p.1, p.2)
    (record {
      list =
          reads-new-refused (section_of c.args.section) (g.K.ListKind.table c.args.which) c.args.va c.args.n c.args.used _
          c.if-va-eq0.false c.table-table.ensures c.way_of.ensures.answer
          g.met.K.Word.Pod.each_number (g.met.K.ListKind.width_of c.args.which) (g.met.K.ListKind.row_of c.args.which)
          (g.met.K.ListKind.rows_of c.args.which) c.args.own.now c.new_list-in-New.ensures.list c.in-New.is c.in_err-list-in-New.was;
    })

pub returns-in_err-put-in-New : goal.returns-in_err-put-in-New
returns-in_err-put-in-New g c =
    let p = err_from_is_err_and c.from_residual-in_err-put-in-New.result c.from_residual-in_err-put-in-New.ensures.1 in
    rw (p.1, p.2)
    (record {
      list =
          reads-new (section_of c.args.section) (g.K.ListKind.table c.args.which) c.args.va c.args.n c.args.used _
          c.if-va-eq0.false c.table-table.ensures c.way_of.ensures.answer
          g.met.K.Word.Pod.each_number (g.met.K.ListKind.width_of c.args.which) (g.met.K.ListKind.row_of c.args.which)
          (g.met.K.ListKind.rows_of c.args.which) c.args.own.now c.new_list-in-New.ensures.list c.in-New.is c.in_ok-list-in-New.was
          c.in_err-put-in-New.was c.put.ensures.table;
    })

pub returns-in_ok-put-in-New : goal.returns-in_ok-put-in-New
returns-in_ok-put-in-New g c =
    record {
      list =
          reads-new (section_of c.args.section) (g.K.ListKind.table c.args.which) c.args.va c.args.n c.args.used _
          c.if-va-eq0.false c.table-table.ensures c.way_of.ensures.answer
          g.met.K.Word.Pod.each_number (g.met.K.ListKind.width_of c.args.which) (g.met.K.ListKind.row_of c.args.which)
          (g.met.K.ListKind.rows_of c.args.which) c.args.own.now c.new_list-in-New.ensures.list c.in-New.is c.in_ok-list-in-New.was
          c.in_ok-put-in-New.was c.put.ensures.table;
    }
