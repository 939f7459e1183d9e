use Rattle.feature_texts.proofs.TextLaws.{lengths-sum, length-of}
use Rattle.feature_texts.proofs.texts_len.Goals as goal

pub returns : goal.returns
returns c =
    lengths-sum c.args.starts.now c.args.parts c.args.map.now c.args.ids.now _ _ _ _ _ _ _ c.ids_len-len.ensures (length-of _ _ _ c.replaced_len-name.ensures c.optional_bytes.ensures) (length-of _ _ _ c.replaced_len-house_number.ensures c.optional_bytes-2.ensures) (length-of _ _ _ c.replaced_len-reference.ensures c.optional_bytes-3.ensures) c.saturating_add_usize-len.ensures c.saturating_add_usize-len-2.ensures c.saturating_add_usize.ensures
