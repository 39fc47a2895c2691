-- `write::working::derive_tables` meets its contract. Assumes nothing.
use Rattle.tables.specs.Working.{working, lists}
use Rattle.std.proofs.lemmas.Result.{err_from_is_err_and}
use Rattle.write.proofs.Tabling.{tags_stop, matrices_stop, indices_stop, all-derived, derived_stops}
use Rattle.write.proofs.working.derive_tables.Goals as goal

pub returns-in_err-build_transformations-clause-derived : goal.returns-in_err-build_transformations-clause-derived
returns-in_err-build_transformations-clause-derived c =
    let x = lists c.args.tables.now in
    let p = err_from_is_err_and c.from_residual.result c.from_residual.ensures.1 in
    rw (p.1, p.2)
    (derived_stops _ _ x c.requires _
    (matrices_stop _ _ x c.requires c.build_transformations.ensures.answer c.in_err-build_transformations.was))

pub returns-in_err-count-clause-derived : goal.returns-in_err-count-clause-derived
returns-in_err-count-clause-derived c =
    let x = lists c.args.tables.now in
    let p = err_from_is_err_and c.from_residual-in_err-count.result c.from_residual-in_err-count.ensures.1 in
    rw (p.1, p.2)
    (derived_stops _ _ x c.requires _
    (indices_stop _ _ x c.requires c.build_indices.ensures.answer c.in_err-count.was))

pub returns-in_err-build_bone_tags-clause-derived : goal.returns-in_err-build_bone_tags-clause-derived
returns-in_err-build_bone_tags-clause-derived c =
    let x = lists c.args.tables.now in
    let p = err_from_is_err_and c.from_residual-in_err-build_bone_tags.result c.from_residual-in_err-build_bone_tags.ensures.1 in
    rw (p.1, p.2)
    (derived_stops _ _ x c.requires _
    (tags_stop _ _ x c.requires c.build_bone_tags.ensures.answer c.in_err-build_bone_tags.was))

pub returns-clause-derived : goal.returns-clause-derived
returns-clause-derived c =
    let x = lists c.args.tables.now in
    let y = working c.build_bone_tags.new.buckets c.build_bone_tags.new.entries c.build_transformations.new.inverse
    c.build_transformations.new.local c.build_indices.new.parents c.build_indices.new.children c.build_indices.new.pending in
    all-derived c.args.n c.args.bones.now x c.requires y c.build_bone_tags.ensures.answer c.in_ok-build_bone_tags.was
    c.build_transformations.ensures.answer c.in_ok-build_transformations.was
    c.build_indices.ensures.answer c.in_ok-count.was
    (record {
      buckets = c.build_bone_tags.auto.buckets;
      entries = c.build_bone_tags.auto.entries;
      inverse = c.build_transformations.auto.inverse;
      local = c.build_transformations.auto.local;
      parents = c.build_indices.auto.parents;
      children = c.build_indices.auto.children;
    })
    c.build_bone_tags.ensures.buckets c.build_bone_tags.ensures.entries c.build_transformations.ensures.rows
    c.build_indices.ensures.parents c.build_indices.ensures.children
