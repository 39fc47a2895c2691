-- What was read, and the lent tables that hold it: the tables' first rows are what the check compares. Assumes nothing.
use Prim.Native.Nat.{ℕ, ◌-◌, ◌*◌, ◌≤◌}
use native.Mathlib.Omega.{arith}
use mathlib.Core.Path.{◌≡◌, refl, sym, ap, ◌∙◌}
use Rattle.std.specs.Prelude.{Option, None, Some}
use mathlib.Core.List.{List, [], flat_map}
use lib.ListN.{length, take, drop, replicate, length-append}
use lib.Seq.{take-append-le}
use Rattle.format.specs.Result.{done}
use Rattle.format.specs.Section.{Section}
use Rattle.format.specs.Rows.{laid, bone_width, bone_words, entry_words, bones_of, table_words}
use Rattle.format.specs.Tables.{ListTable, inverse_table, local_table, parents_table, children_table}
use Rattle.format.specs.Tables.{Rows, SkeletonRow, Tables, Room, no_rows, words_in}
use Rattle.format.specs.Read.{read_skeleton}
use Rattle.format.specs.Check.{Read, read_of, bones_read, chains_read, chains_along, list_read}
use Rattle.read_bones.proofs.Rows.{length-words_of}
use Rattle.read.specs.Lent.{Lent, laid_all}
use Rattle.read_laws.specs.Bytes.{SectionBytes}
use Rattle.read_laws.proofs.Bones.{bones_read_lem}
use Rattle.format.specs.Tables.{part_length}
use Rattle.check_lists.specs.Chained.{entries_in}
use Rattle.check_lists.proofs.Held.{chains-held}
use Rattle.read_laws.specs.ReadIn.{read_in}
use Rattle.read_laws.proofs.Standing.{Front, Standing, standing}

-- ---- rows of one table each

-- the words of some rows
abbrev rows_of : Option Rows → List ℕ → List ℕ
rows_of None w = []
rows_of (Some r) w = take r.count (drop r.first w)

-- the first words of a table
words_in_lem :
    {t : List ℕ} (o : Option Rows) (w : List ℕ) (n : ℕ) → Front o (length w) → t ≡ laid w n → rows_of o w ≡ take (part_length o) t
words_in_lem None w n h e = refl
words_in_lem (Some r) w n h e = rw (h.0, e) (sym (take-append-le r.count w (replicate (n - length w) 0) h.1))

list_in :
    {t : List ℕ} (l : ListTable) (o : Option Rows) (u : Tables) (n : ℕ) → Front o (length (words_in l u.lists)) →
    t ≡ laid (words_in l u.lists) n → list_read l o u ≡ take (part_length o) t
list_in l None u n h e = refl
list_in l (Some r) u n h e = words_in_lem (Some r) (words_in l u.lists) n h e

chains_in :
    {b e : List ℕ} (o : Option Rows) (u : Tables) (lb le m n : ℕ) → Front o (length u.chained.buckets) →
    b ≡ laid u.chained.buckets lb → e ≡ laid (flat_map entry_words u.chained.entries) le → m ≡ n →
    chains_read m o u ≡ chains_along (entries_in e) n (take (part_length o) b)
unfolding chains_along
chains_in None u lb le m n h eb ee em = refl
chains_in {b} {e} (Some r) u lb le m n h eb ee em =
    rw em
    (ap (chains_along u.chained.entries n) (words_in_lem (Some r) u.chained.buckets lb h eb)
    ∙ sym (chains-held u.chained.entries le ee n (take r.count b)))

-- ---- all of it

read_same :
    {a b : Read} → a.bones ≡ b.bones → a.chains ≡ b.chains → a.parents ≡ b.parents → a.children ≡ b.children →
    a.inverse ≡ b.inverse → a.local ≡ b.local → a ≡ b
read_same e₁ e₂ e₃ e₄ e₅ e₆ = λ i.
    record { bones = e₁ i; chains = e₂ i; parents = e₃ i; children = e₄ i; inverse = e₅ i; local = e₆ i }

module _
    (sec : Section) (bytes : SectionBytes sec) (room : Room) (root : ℕ) (s : SkeletonRow) (u : Tables)
    (reads : read_skeleton sec room root no_rows ≡ done (Some s, u))
  where
    stands : Standing s u
    stands = standing sec bytes room root s u reads

    -- as many bones as a 16-bit count holds
    pub read-few : part_length s.bones ≤ 65535
    read-few = stands.few

    -- the bones read are those in the table
    pub bones-held :
        {o : List ℕ} (n : ℕ) → o ≡ laid (table_words u).bones n → bones_read s.bones u ≡ bones_of (part_length s.bones) o
    unfolding table_words
    bones-held n e =
        let w = flat_map bone_words u.bones in
        sym (ap (bones_of (part_length s.bones)) e
        ∙ (bones_read_lem sec bytes room root s u reads).table (replicate (n - length w) 0))

    -- and the table has as many rows
    pub read_rows_lem : {o : List ℕ} (n : ℕ) → o ≡ laid (table_words u).bones n → bone_width * part_length s.bones ≤ length o
    unfolding table_words
    read_rows_lem n e =
        let w = flat_map bone_words u.bones in
        let l = ap length e ∙ length-append w (replicate (n - length w) 0) in
        omega (arith, l, length-words_of u.bones, (bones_read_lem sec bytes room root s u reads).count)

    -- what was read, in the tables that the reading leaves
    pub read_held :
        (t₀ t : Lent) (q : List ℕ) → t ≡ laid_all (table_words u) q t₀ →
        read_of s u
        ≡ read_in (part_length s.bones) t.bones (part_length s.buckets) t.buckets t.entries (part_length s.inverse) t.inverse
        (part_length s.local) t.local (part_length s.parents) t.parents (part_length s.children) t.children
    unfolding table_words
    read_held t₀ t q e =
        let h = stands in
        let b = bones_read_lem sec bytes room root s u reads in
        let n : length (bones_read s.bones u) ≡ part_length s.bones = ap length b.all ∙ sym b.count in
        read_same (bones-held (length t₀.bones) (ap (λ (x : Lent). x.bones) e))
        (chains_in s.buckets u (length t₀.buckets) (length t₀.entries) (length (bones_read s.bones u)) (part_length s.bones)
        h.buckets (ap (λ (x : Lent). x.buckets) e) (ap (λ (x : Lent). x.entries) e) n)
        (list_in parents_table s.parents u (length t₀.parents) h.parents (ap (λ (x : Lent). x.parents) e))
        (list_in children_table s.children u (length t₀.children) h.children (ap (λ (x : Lent). x.children) e))
        (list_in inverse_table s.inverse u (length t₀.inverse) h.inverse (ap (λ (x : Lent). x.inverse) e))
        (list_in local_table s.local u (length t₀.local) h.local (ap (λ (x : Lent). x.local) e))
