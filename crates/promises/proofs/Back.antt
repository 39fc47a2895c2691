-- Back: what the writer writes reads back, bit for bit, and the check accepts it. By Room, any tables that hold the
-- reading give it. Assumes nothing.
use mathlib.Core.Path.{◌≡◌, refl, sym, ap, ◌∙◌, subst}
use Prim.Native.Nat.{ℕ, ◌≤◌}
use native.Mathlib.Omega.{arith}
use Rattle.std.specs.Prelude.{Option, None, Some}
use mathlib.Core.List.{List, [], ◌∷◌}
use lib.ListN.{length, length-map}
use lib.Dec.{T, leb, leb→le}
use Rattle.format.specs.Result.{Res, refused, done}
use Rattle.format.specs.Field.{Each}
use Rattle.format.specs.Section.{Section, Place, part, or_none, name_bytes}
use Rattle.format.specs.Bone.{Bone, Words4, map_name, naming}
use Rattle.format.specs.Children.{children}
use Rattle.format.specs.Deriving.{DeriveRoom, derives, parents, indices}
use Rattle.format.specs.Tables.{SkeletonRow, Pooled, Tables, no_rows}
use Rattle.format.specs.Read.{read_skeleton}
use Rattle.format.specs.Layout.{Bytes, NamedBone, base, layout}
use Rattle.format.specs.Write.{good_bytes, good_part, good_name, good_names, named, written}
use Rattle.format.specs.Check.{bones_read}
use Rattle.format.proofs.Results.{needed}
use Rattle.promises.specs.Meaning.{ReadsTo, Fits4, BoneFits, ReadsBack}
use Rattle.promises.proofs.Lists.{both}
use Rattle.promises.proofs.Each.{each_map}
use Rattle.promises.proofs.Check.{derived_accepts}
use Rattle.promises.proofs.Room.{room_decides}
use Rattle.format.proofs.Parts.{alone}
use Rattle.format.proofs.NamesIgnored.{parents-naming, indices-naming}
use Rattle.promises.proofs.LayoutParts.{kids_of}
use Rattle.promises.proofs.LayoutSize.{GoodName, GoodNames, layout-small}
use Rattle.promises.proofs.LayoutFits.{Taken}
use Rattle.promises.proofs.SectionBack.{ample, skeleton_back, tables_back, section-reads, section-named, section-derived}

-- ---- what the writer takes

naming-fits : {N M : Type 0} (f : N → M) (b : Bone N) → BoneFits b → BoneFits (naming f b)
naming-fits f b h =
    record {
      rotation = h.rotation;
      translation = h.translation;
      scale = h.scale;
      next_sibling = h.next_sibling;
      parent = h.parent;
      flags = h.flags;
      index = h.index;
      tag = h.tag;
      kept = h.kept;
    }

module _ (lent : Section) where
  good_part_lem : (r : Res Bytes) → T (good_part r) → T (good_bytes (or_none r))
  good_part_lem (refused n) t = absurd t
  good_part_lem (done s) t = t

  -- the bytes of a name that lies in the lent halves
  good_name_lem : (nm : Option Place) → T (good_name lent nm) → GoodName (map_name (name_bytes lent) nm)
  unfolding name_bytes
  good_name_lem None t = tt
  good_name_lem (Some p) t = good_part_lem (part lent p.address p.size) t

  good_names_lem : (bones : List (Bone Place)) → T (good_names lent bones) → GoodNames (named lent bones)
  unfolding good_names
  good_names_lem [] t = tt
  good_names_lem (b ∷ bs) t =
      let k = both (good_name lent b.name) (good_names lent bs) t in (good_name_lem b.name k.0, good_names_lem bs k.1)

  takes :
      (droom : DeriveRoom) (size : ℕ) (bones : List (Bone Place)) (free : Words4) (out : Bytes) → Each BoneFits bones →
      Fits4 free → written lent droom size bones free ≡ done out →
      Taken (named lent bones) free × (layout (named lent bones) free ≡ out)
  unfolding written
  takes droom size bones free out fit fits e =
      let f = name_bytes lent in
      let nb = named lent bones in
      let ks = children (indices bones) (parents bones) in
      let h2 = needed 2 (leb (length bones) 65535) _ out e in
      let h4 = needed 4 (good_names lent bones) _ out h2.1 in
      let h1 = needed 1 (derives droom (length bones)) _ out h4.1 in
      let h3 = needed 3 (leb (length ks) 65535) _ out h1.1 in
      let h5 = needed 5 (leb (length (layout nb free)) size) _ out h3.1 in
      let few : length nb ≤ 65535 = omega (arith, leb→le (length bones) 65535 h2.0, length-map bones (naming f)) in
      let names = good_names_lem bones h4.0 in
      let same : kids_of nb ≡ ks = (λ i. children (indices-naming f bones i) (parents-naming f bones i)) in
      let kids : length (kids_of nb) ≤ 65535 = omega (arith, leb→le (length ks) 65535 h3.0, ap length same) in
      let last = h5.1 in (
        record {
          few = few;
          names = names;
          kids = kids;
          fit = each_map BoneFits BoneFits (naming f) (naming-fits f) bones fit;
          free_fit = fits;
          small = layout-small nb free few names kids;
        },
        cc,
      )

-- ---- the theorem

module _ (lent : Section) (bones : List (Bone Place)) (free : Words4) (gfx : Bytes) (ok : Taken (named lent bones) free) where
  abbrev laid_bones : List NamedBone
  laid_bones = named lent bones

  abbrev sec : Section
  sec = alone (layout laid_bones free) gfx

  abbrev s : SkeletonRow
  s = skeleton_back laid_bones free

  abbrev tables_with : List Pooled → Tables
  tables_with q = tables_back laid_bones free q

  -- as many bones are read as were taken
  length-read : (q : List Pooled) → length (bones_read s.bones (tables_with q)) ≡ length bones
  length-read q =
      sym (length-map (bones_read s.bones (tables_with q)) (naming (name_bytes sec)))
      ∙ ap length (section-named laid_bones free gfx ok q)
      ∙ length-map bones (naming (name_bytes lent))

  -- the section laid, whatever the graphics half
  laid-back : ReadsBack lent bones free sec
  laid-back = made (section-reads laid_bones free gfx ok).0 (section-reads laid_bones free gfx ok).1
    where
      made :
          (q : List Pooled) → read_skeleton sec ample base no_rows ≡ done (Some s, tables_with q) → ReadsBack lent bones free sec
      made q e =
          let reads : ReadsTo sec base s (tables_with q) = record { room = ample; gives = e } in
          record {
            skeleton = s;
            tables = tables_with q;
            reads = reads;
            same = section-named laid_bones free gfx ok q;
            kind_word = refl;
            free_words = refl;
            accepted = λ room droom held d.
                derived_accepts sec room droom base s (tables_with q) ((room_decides sec base s (tables_with q) reads room).0 held)
                (subst (λ k. T (derives droom k)) (sym (length-read q)) d) (section-derived laid_bones free gfx ok q)
                ∙ ap (λ k. done (Some k)) (length-read q);
            addresses = ok.small;
          }

pub back :
    (lent : Section) (droom : DeriveRoom) (size : ℕ) (bones : List (Bone Place)) (free : Words4) (out graphics : Bytes) →
    Each BoneFits bones → Fits4 free → written lent droom size bones free ≡ done out →
    ReadsBack lent bones free (record { system = out; graphics = graphics })
back lent droom size bones free out graphics fit fits e =
    let t = takes lent droom size bones free out fit fits e in
    subst (λ s. ReadsBack lent bones free (alone s graphics)) t.1 (laid-back lent bones free graphics t.0)
