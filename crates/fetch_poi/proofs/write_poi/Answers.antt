use Rattle.fetch_poi.proofs.PoiLaws.{poi-short, poi-done}
use Rattle.fetch_poi.proofs.write_poi.Goals as goal

pub returns-then-buffer-len : goal.returns-then-buffer-len
returns-then-buffer-len c = poi-short _ _ _ _ _ _ _ _ c.poi_parts-parts.ensures _ c.texts_len-len.ensures _ c.if-buffer-len.true c.short_buffer.ensures

pub returns : goal.returns
returns c =
    poi-done _ _ _ _ _ _ _ _ c.poi_parts-parts.ensures _ c.texts_len-len.ensures _ _ _ c.if-buffer-len.false c.write_texts.ensures c.texts_of-texts.ensures c.poi_with.ensures
