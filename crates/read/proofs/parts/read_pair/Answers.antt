-- `parts::read_pair` meets its contract: one list, then the other. Assumes nothing.
use Rattle.std.proofs.lemmas.Result.{err_from_is_err_and}
use Rattle.read.proofs.Two.{pair_no_first, pair-no_second, pair-done, same-length}
use Rattle.read.proofs.parts.read_pair.Goals as goal

pub returns-in_err-first : goal.returns-in_err-first
returns-in_err-first g c =
    let p = err_from_is_err_and c.from_residual.result c.from_residual.ensures.1 in
    rw (p.1, p.2) (pair_no_first c.list_in.ensures _ _ c.in_err-first.was)

pub returns-in_err-second : goal.returns-in_err-second
returns-in_err-second g c =
    let p = err_from_is_err_and c.from_residual-in_err-second.result c.from_residual-in_err-second.ensures.1 in
    let same = same-length g.met.K.Word.Pod.each_number c.list_in.new.own c.args.own.now c.list_in.auto.own in
    rw (p.1, p.2)
    (pair-no_second c.list_in.ensures _ _ c.in_ok-first.was same (rw c.other.ensures at c.list_in-2.ensures) c.in_err-second.was)

pub returns : goal.returns
returns g c =
    let same = same-length g.met.K.Word.Pod.each_number c.list_in.new.own c.args.own.now c.list_in.auto.own in
    pair-done c.list_in.ensures _ _ c.in_ok-first.was same (rw c.other.ensures at c.list_in-2.ensures) c.in_ok-second.was
