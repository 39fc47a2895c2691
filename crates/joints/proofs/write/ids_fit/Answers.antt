-- `joints::write::ids_fit` meets its contract: the test of each row. Assumes nothing.
use mathlib.Core.Path.{◌∙◌}
use lib.Dec.{leb}
use lib.ListN.{get_or}
use Rattle.std.proofs.Common.{rules, tests}
use Rattle.std.proofs.lemmas.Iterator.{YieldsList-from_slice}
use Rattle.std.proofs.lemmas.Iterator.Search.{all_from_yields_List}
use Rattle.joints.proofs.Laying.{ids_all}
use Rattle.joints.proofs.write.ids_fit.Goals as goal

pub returns : goal.returns
returns c =
    all_from_yields_List (λ w. leb (get_or w 0 0) 65535) _ _ c.all.result c.all.ensures.ran (YieldsList-from_slice c.args.rotation.now cc)
    (λ x b q k. search (rules, tests))
    ∙ ids_all c.args.rotation.now
