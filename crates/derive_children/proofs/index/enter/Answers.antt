-- `derive_children::index::enter` meets its contract. Assumes nothing.
use mathlib.Core.Path.{refl}
use Rattle.derive_children.proofs.Entering.{enter-found, enter-new}
use Rattle.derive_children.proofs.index.enter.Goals as goal

pub returns-then-rep-gt0 : goal.returns-then-rep-gt0
returns-then-rep-gt0 c =
    record {
      rows =
          enter-found _ _ _ c.requires.0 c.requires.2 _ _ refl c.seek-rep.ensures.answer c.if-rep-gt0.true;
    }

pub returns : goal.returns
returns c =
    record {
      rows =
          enter-new _ _ _ c.requires.0 c.requires.2 _ _ refl c.seek-rep.ensures.answer c.if-rep-gt0.false;
    }
