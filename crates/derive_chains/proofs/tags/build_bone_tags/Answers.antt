-- The rows are found, and the tables zero; as many buckets are lent as there are.
use Rattle.std.proofs.Common.{rules, ◌≡◌, length}
use Rattle.format.specs.Rows.{cleared}
use Rattle.derive_chains.proofs.TagsOutcome.{tags_found, heads_left}
use Rattle.derive_chains.proofs.tags.build_bone_tags.Goals as goal

pub enter_tags-requires : goal.enter_tags-requires
enter_tags-requires c =
    let b : c.fill.new.self ≡ cleared (length c.args.buckets.now) = search rules in
    let e : c.fill-2.new.self ≡ cleared (length c.args.entries.now) = search rules in
    tags_found _ _ _ _ _ _ _ _ c.in_ok-rows.ensures.answer c.bucket_count-count.ensures.answer b e

pub returns-clause-buckets : goal.returns-clause-buckets
returns-clause-buckets c =
    let b : c.fill.new.self ≡ cleared (length c.args.buckets.now) = search rules in
    let e : c.fill-2.new.self ≡ cleared (length c.args.entries.now) = search rules in
    heads_left _ _ _ _ _ _ _ _ c.in_ok-rows.ensures.answer c.bucket_count-count.ensures.answer b e c.enter_tags.ensures.rows.heads
