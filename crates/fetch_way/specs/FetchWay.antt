-- A way as it is fetched from its place (crates fetched and measured_way), with the lists and the buffer that it is lent.
use Rattle.std.specs.Prelude.{ℕ, ◌≡◌, List, Float, length, take, Result}
use Rattle.parsing.specs.Parse.{Res}
use Rattle.error.specs.declared.Lengths.{Lengths}
use Rattle.error.specs.declared.LentRefusal.{LentRefusal}
use Rattle.way_data.specs.Reply as lists
use Rattle.fetched.specs.Fetched.{Fetched, FetchLists, fetch_reply, deliver_all}
use Rattle.fetched.specs.declared.FetchedWay.{FetchedWay}
use Rattle.feature_texts.specs.FeatureTexts.{texts_in, write_texts}
use Rattle.measured_way.specs.declared.TextPlan.{TextPlan}

-- the lists in the order in which a fetch takes them, and the buffer
abbrev pub lent : List ℕ → List Float → List Float → List Float → List Float → List ℕ → FetchLists
lent counts lats lons initial_lats initial_lons buffer = record {
  lists = lists.lent counts lats lons;
  initial_latitudes = initial_lats;
  initial_longitudes = initial_lons;
  buffer = buffer;
}

-- the answer to a call, where the definition says `stored`
abbrev pub WayFetchIs : Res (Fetched FetchedWay) → (lent : FetchLists) → Result (FetchedWay × ℕ) LentRefusal → (left : FetchLists) → Type 0
WayFetchIs stored l r left = fetch_reply r left ≡ deliver_all stored l

-- What private functions are asked and leave, which need not be believed: the lengths of the lists, and the buffer
abbrev pub room_of : FetchLists → Lengths
room_of l = record {
  list1 = length l.lists.counts;
  list2 = length l.lists.latitudes;
  list3 = length l.lists.longitudes;
  list4 = length l.initial_latitudes;
  list5 = length l.initial_longitudes;
  buffer = length l.buffer;
}

abbrev pub texts_written : (starts m : List ℕ) → TextPlan → List ℕ → List ℕ
texts_written starts m p buffer = write_texts (texts_in starts p.parts m (take p.tag_ids.count p.tag_ids.ids)) buffer
