-- `derive_children::pile::layer` meets its contract. Assumes nothing.
use mathlib.Core.Path.{◌∙◌}
use Rattle.derive_children.proofs.Layers.{layered}
use Rattle.derive_children.proofs.pile.layer.Goals as goal

pub returns : goal.returns
returns c =
    record {
      answer =
          layered _ _ _ _ _ _ _ _ _ _ _ _ _ _ _ _ _ c.take_four-f.ensures.answer c.push-d.ensures.answer c.push-c.ensures.answer
          c.push-b.ensures.answer c.push.ensures.answer (c.push.auto.t ∙ c.push-b.auto.t ∙ c.push-c.auto.t ∙ c.push-d.auto.t);
    }
