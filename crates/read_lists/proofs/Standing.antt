-- Laws of the lists that the pool gives: each lies in its table, and every step that pools what it stores keeps it so. In order:
-- words added to a table; the empty pool, words added, a row added to the pool. That reading a list keeps it is in `Frames`.
-- Assumes nothing.
use mathlib.Core.Path.{◌≡◌, refl, sym, ap, subst, ◌∙◌}
use mathlib.Core.Logic.{⊎_elim}
use mathlib.Core.List.{List, [], ◌++◌}
use Prim.Native.Nat.{ℕ, ◌≤◌}
use native.Mathlib.Nat.{le_refl}
use native.Mathlib.Omega.{arith}
use lib.ListN.{length, length-append}
use Rattle.format.specs.Result.{done}
use Rattle.format.specs.Tables.{ListTable, inverse_table, local_table, parents_table, children_table}
use Rattle.format.specs.Tables.{Kind, skeleton, buckets, entry, block, bone, string, list}
use Rattle.format.specs.Tables.{Rows, pooled, Lists, Tables, Room, with_pool, words_in, longer, add_words, find, put}
use Rattle.format.proofs.Results.{gone}
use Rattle.blocks.specs.Pool.{enter}
use Rattle.blocks.proofs.Entering.{find-enter-same, find-enter-other, put-enter}
use Rattle.blocks.proofs.Cases.{eq-or-ne}
use Rattle.read_lists.specs.Lists.{Inside, ListsStand}

-- ---- words added to a table

-- the table has them behind its own
pub words_in-longer : (l : ListTable) (w : List ℕ) (t : Lists) → words_in l (longer l w t) ≡ words_in l t ++ w
words_in-longer inverse_table w t = refl
words_in-longer local_table w t = refl
words_in-longer parents_table w t = refl
words_in-longer children_table w t = refl

more : (a w : List ℕ) → length a ≤ length (a ++ w)
more a w = simp length-append (omega arith)

-- no table has fewer words than before
longer_le : (l o : ListTable) (w : List ℕ) (t : Lists) → length (words_in o t) ≤ length (words_in o (longer l w t))
longer_le inverse_table inverse_table w t = more t.inverse w
longer_le inverse_table local_table w t = le_refl (length t.local)
longer_le inverse_table parents_table w t = le_refl (length t.parents)
longer_le inverse_table children_table w t = le_refl (length t.children)
longer_le local_table inverse_table w t = le_refl (length t.inverse)
longer_le local_table local_table w t = more t.local w
longer_le local_table parents_table w t = le_refl (length t.parents)
longer_le local_table children_table w t = le_refl (length t.children)
longer_le parents_table inverse_table w t = le_refl (length t.inverse)
longer_le parents_table local_table w t = le_refl (length t.local)
longer_le parents_table parents_table w t = more t.parents w
longer_le parents_table children_table w t = le_refl (length t.children)
longer_le children_table inverse_table w t = le_refl (length t.inverse)
longer_le children_table local_table w t = le_refl (length t.local)
longer_le children_table parents_table w t = le_refl (length t.parents)
longer_le children_table children_table w t = more t.children w

inside-longer : (l : ListTable) (w : List ℕ) (t : Lists) (k : Kind) (r : Rows) → Inside k r t → Inside k r (longer l w t)
inside-longer l w t (list o) r h = omega (arith, longer_le l o w t)
inside-longer l w t skeleton r h = tt
inside-longer l w t buckets r h = tt
inside-longer l w t entry r h = tt
inside-longer l w t block r h = tt
inside-longer l w t bone r h = tt
inside-longer l w t string r h = tt

-- ---- the lists stand

-- tables with an empty pool, as a reading starts
pub lists-stand-none : (t : Tables) → t.pool ≡ [] → ListsStand t
unfolding find
lists-stand-none t e =
    record { stand = λ a p f. let z : ◌≡◌ {A = ℕ} 0 1 = cc (sym (ap (find a) e)) in absurd (omega arith) }

pub lists-stand-longer : (l : ListTable) (w : List ℕ) (t : Tables) → ListsStand t → ListsStand (add_words l w t)
lists-stand-longer l w t h =
    record { stand = λ a p f. inside-longer l w t.lists p.kind p.stored (h.stand a p f) }

-- what is pooled lies in its table, if it is a list
pub lists-stand-put :
    (room : Room) (va : ℕ) (k : Kind) (r : Rows) (t u : Tables) → put room va k r t ≡ done u → Inside k r t.lists → ListsStand t →
    ListsStand u
lists-stand-put room va k r t u e i h =
    gone (enter room.pool (pooled va k r) t.pool) _ u (sym (put-enter room (pooled va k r) t) ∙ e) λ q f g.
    let d : with_pool q t ≡ u = cc in
    subst ListsStand d
    (record {
      stand =
          λ a p found.
          ⊎_elim
          (λ (same : va ≡ a).
          let is : p ≡ pooled va k r = cc (find-enter-same room.pool (pooled va k r) t.pool f) in
          rw is i)
          (λ other. h.stand a p (sym (find-enter-other room.pool (pooled va k r) t.pool f a other) ∙ found))
          (eq-or-ne va a);
    })
