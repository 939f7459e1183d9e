-- The texts of a fetched feature as the code finds them (`feature_texts` of crate fetched).
use Rattle.std.specs.Prelude.{ℕ, List, map, take, replicate}
use Rattle.tag.specs.declared.TextKey.TheVariants.{Name, HouseNumber, Ref}
use Rattle.types.specs.declared.TagRange.{TagRange}
use Rattle.types.specs.Types.{maybe_part}
use Rattle.fetched.specs.Fetched.{started_name, tag_string, keyed, no_text, filled_texts, feature_texts}
use Rattle.fetched.specs.declared.TagText.{TagText}
use Rattle.fetched.specs.declared.FeatureTexts.{FeatureTexts}
use Rattle.feature_texts.specs.declared.TextParts.{TextParts}

-- the strings of the tags with these ids
unfoldable pub strings_of : (starts : List ℕ) → TagRange → List ℕ → List ℕ → List TagText
strings_of s t m ids = filled_texts (map (λ i. tag_string (started_name s t m i)) ids)

-- a feature has 15 tags at most
abbrev pub texts_of : (starts : List ℕ) → TextParts → List ℕ → List ℕ → FeatureTexts
texts_of s p m ids =
    feature_texts (started_name s p.tags m) (take 15 ids) (maybe_part m p.name) (maybe_part m p.house_number) (maybe_part m p.reference)

-- What a private function is asked for, which need not be believed: the texts of a feature without tags.
abbrev pub own_texts : TextParts → List ℕ → FeatureTexts
own_texts p m = record {
  tags = replicate 15 no_text;
  name = keyed Name (maybe_part m p.name);
  house_number = keyed HouseNumber (maybe_part m p.house_number);
  reference = keyed Ref (maybe_part m p.reference);
}
