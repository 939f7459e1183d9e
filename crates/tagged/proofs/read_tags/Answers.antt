use Prim.Native.Nat.{◌%◌}
use lib.ListN.{length}
use Rattle.parsing.specs.Parse.{many}
use Rattle.parsing.proofs.Steps.{then-then}
use Rattle.byte_source.proofs.ReadLaws.{handed-up}
use Rattle.utils.specs.Vbe.{values_of}
use Rattle.format.specs.Tile.{tag_id, values}
use Rattle.tag_table.specs.Tables.{kinds_by}
use Rattle.tagged.proofs.TaggedLaws.{ids-ok, ids-stop, values-ok, values-stop, tags-made}
use Rattle.tagged.proofs.read_tags.Goals as goal

pub returns-in_err-plain_ids : goal.returns-in_err-plain_ids
returns-in_err-plain_ids c =
    let kinds = kinds_by c.args.letters.now c.args.tags in
    handed-up _ _ _ _ c.from_residual.ensures
    (then-then (many (tag_id (length kinds)) (c.args.special % 16) c.args.map.now c.args.at) _ _ _
    (ids-stop c.args.letters.now c.args.tags c.args.map.now (c.args.special % 16) c.args.at _ _ c.in_err-plain_ids.ensures))

pub returns-in_err-plain_values : goal.returns-in_err-plain_values
returns-in_err-plain_values c =
    let kinds = kinds_by c.args.letters.now c.args.tags in
    handed-up _ _ _ _ c.from_residual-in_err-plain_values.ensures
    (then-then (many (tag_id (length kinds)) (c.args.special % 16) c.args.map.now c.args.at) _ _ _
    (ids-ok c.args.letters.now c.args.tags c.args.map.now (c.args.special % 16) c.args.at _ _ _ _ _ c.in_ok-plain_ids.ensures
    (λ l d p n. then-then (values kinds (values_of l) c.args.map.now _) _ _ _
    (values-stop kinds c.args.map.now (c.args.special % 16) _ _ _ _ d n _ c.in_err-plain_values.ensures))))

pub returns : goal.returns
returns c =
    let kinds = kinds_by c.args.letters.now c.args.tags in
    then-then (many (tag_id (length kinds)) (c.args.special % 16) c.args.map.now c.args.at) _ _ _
    (ids-ok c.args.letters.now c.args.tags c.args.map.now (c.args.special % 16) c.args.at _ _ _ _ _ c.in_ok-plain_ids.ensures
    (λ l d p n. then-then (values kinds (values_of l) c.args.map.now _) _ _ _
    (values-ok kinds c.args.map.now (c.args.special % 16) _ _ _ _ d n _ _ _ c.in_ok-plain_values.ensures
    (λ v p'. tags-made _ c.args.special _ _ _ _ _ l v c.layer_of.ensures c.layer_of.type_inv d n p p'))))
