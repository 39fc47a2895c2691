-- `check_lists::same_chains` meets its contract: as many buckets, and the test of each pair. Assumes nothing.
use Rattle.std.proofs.Common.{◌≡◌, length, take, ◌∙◌, rules, tests}
use Rattle.std.proofs.lemmas.Iterator.{YieldsList-from_slice, YieldsList-from_zip}
use Rattle.std.proofs.lemmas.Iterator.Search.{all_from_yields_List}
use Rattle.check_lists.specs.Chained.{entries_in}
use Rattle.check_lists.proofs.Comparing.{same_lengths, same_pairs}
use Rattle.check_lists.proofs.Entries.{chains_same, same_buckets_lem}
use Rattle.check_lists.proofs.same_chains.Goals as goal

pub returns-then-links-derived_links : goal.returns-then-links-derived_links
returns-then-links-derived_links c =
    let links = take c.args.count c.args.buckets.now in
    let heads = take c.args.c c.args.heads.now in
    let same : length links ≡ length heads =
    rw (← c.front-links.ensures.first, ← c.front-derived_links.ensures.first) c.if-links-derived_links.true in
    let alike = chains_same (entries_in c.args.entries.now) (entries_in c.args.derived.now) c.args.n in
    record {
      answer =
          all_from_yields_List (λ p. alike p.0 p.1) c.all.new.self _ c.all.result c.all.ensures.ran
          (YieldsList-from_zip (YieldsList-from_slice links (search rules)) (YieldsList-from_slice heads (search rules)))
          (λ x b q k. search (rules, tests))
          ∙ same_pairs alike links heads same
          ∙ same_buckets_lem _ _ _ _ _;
    }

pub returns-else-links-derived_links : goal.returns-else-links-derived_links
returns-else-links-derived_links c =
    let links = take c.args.count c.args.buckets.now in
    let heads = take c.args.c c.args.heads.now in
    let differ : length links ≡ length heads → ⊥ =
    rw (← c.front-links.ensures.first, ← c.front-derived_links.ensures.first) c.if-links-derived_links.false in
    record { answer = (search (rules, tests)) ∙ same_lengths _ links heads differ ∙ same_buckets_lem _ _ _ _ _ }
