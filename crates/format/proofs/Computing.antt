-- One name that opens every definition, for proofs by computation: `unfolding everything`. Assumes nothing.
use mathlib.Core.List.{flat_map}
use lib.Ieee as Ieee
use Rattle.math.specs.Word.{word_of}
use Rattle.math.specs.Vector.{add_vec3, quat_mul, quat_rotate}
use Rattle.math.specs.Matrix.{from_quat_pos}
use Rattle.math.specs.Inverse.{pick_mat, inverse}
use Rattle.format.specs.Field.{value_of, bytes, or_zero, which_list, words, word_bytes, lay}
use Rattle.format.specs.Section.{spot, cursor, part, array, until_zero, name_at, name_bytes}
use Rattle.format.specs.Chains.{first_above, num_hash_buckets, bucket_count, entry_count, keep, falling, chain, up_from}
use Rattle.format.specs.Chains.{chains, greatest_below}
use Rattle.format.specs.Children.{positions, roots, layers, padded, kids, first_pending, pair_at, children}
use Rattle.format.specs.Matrices.{climb, bone_at, walk, local_of, inverse_of, inverses, locals}
use Rattle.format.specs.Deriving.{derives}
use Rattle.format.specs.Tables.{find, replace, put_over, as_kind}
use Rattle.format.specs.Records.{header}
use Rattle.format.specs.Read.{alter, take_columns, link_to, read_chain, head_from, read_head, read_buckets, buckets_from}
use Rattle.format.specs.Read.{read_bucket_array, name_from, read_name, bone_from, read_bone, read_bones, block_from, read_block}
use Rattle.format.specs.Read.{read_bones_at, store_list, read_new, given_again, read_over, read_over_kind, list_from, read_list}
use Rattle.format.specs.Read.{read_new_skeleton, skeleton_from, read_skeleton}
use Rattle.format.specs.Layout.{pad16, pointer, pointers, chain_bytes, entry_total, entry_bytes, bone_items, ended_name}
use Rattle.format.specs.Layout.{bone_bytes, block_bytes, all_names, block_size, starts, skeleton_items, joined, layout}
use Rattle.format.specs.Write.{no_zero, good_names, written}
use Rattle.format.specs.Lookup.{follow, lookup_in, lookup}
use Rattle.format.specs.Check.{gather, chain_along, chains_along, same_list, verdict, read, check_from, check}
use Rattle.format.specs.Hash.{mix, rage_joaat}
use Rattle.format.specs.Search.{first_key, search}
use Rattle.format.specs.Joints.{rotation_written, translation_written, joints_items, joints_layout, ids_fit, joints_written, limit_rows}
use Rattle.format.specs.Joints.{limits, read_joints}
use Rattle.format.specs.Rows.{bone_words, place_of, bone_of, bones_of, table_words}
use Rattle.format.specs.Program.{digits_onto, printed}

unfoldable pub everything : Unit {0}
unfolding flat_map Ieee.add Ieee.sub Ieee.mul Ieee.div Ieee.neg Ieee.eq Ieee.of_bits Ieee.to_bits word_of add_vec3 quat_mul quat_rotate from_quat_pos pick_mat inverse value_of bytes or_zero which_list words word_bytes lay spot cursor part array until_zero name_at name_bytes first_above num_hash_buckets bucket_count entry_count keep falling chain up_from chains greatest_below positions roots layers padded kids first_pending pair_at children climb bone_at walk local_of inverse_of inverses locals derives find replace put_over as_kind header alter take_columns link_to read_chain head_from read_head read_buckets buckets_from read_bucket_array name_from read_name bone_from read_bone read_bones block_from read_block read_bones_at store_list read_new given_again read_over read_over_kind list_from read_list read_new_skeleton skeleton_from read_skeleton pad16 pointer pointers chain_bytes entry_total entry_bytes bone_items ended_name bone_bytes block_bytes all_names block_size starts skeleton_items joined layout no_zero good_names written follow lookup_in lookup gather chain_along chains_along same_list verdict read check_from check mix rage_joaat first_key search rotation_written translation_written joints_items joints_layout ids_fit joints_written limit_rows limits read_joints bone_words place_of bone_of bones_of table_words digits_onto printed
everything = tt
