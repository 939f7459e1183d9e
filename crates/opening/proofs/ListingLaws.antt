-- The walk over the texts of tables that are known to be readable: what is left of a table, written to the lists as they are, gives what is to
-- be written; and two tables, one behind the other, fill the fronts of the lists.
use Prim.Native.Nat.{ℕ, zero, suc, ◌+◌, ◌-◌, ◌≤◌, ◌<◌}
use native.Mathlib.Omega.{arith}
use native.Mathlib.Numerals.{add-one}
use mathlib.Core.Path.{◌≡◌, refl, sym, ap, ◌∙◌}
use mathlib.Core.List.{List, [], ◌++◌, map}
use lib.ListN.{length, length-append, length-map, length-set, set}
use lib.Seq.{sets, length-sets}
use borrow.Author.Rules.{rules}
use Rattle.parsing.specs.Parse.{ok, Part, many, Fine, list_of}
use Rattle.parsing.proofs.Loops.{rest, rest-no, fine-is, many-count, sets-append}
use Rattle.error.specs.Refusals.{refused}
use Rattle.error.specs.declared.Refusal.{Refusal}
use Rattle.byte_source.specs.Answers.{part_in}
use Rattle.byte_source.specs.declared.Span.{Span}
use Rattle.utils.specs.Vbe.{text}
use Rattle.format.specs.Lent.{front, sets-front}
use Rattle.format.specs.TagLists.{starts_of, letter_of_text}
use Rattle.format.proofs.TagLaws.{text-end}
use Rattle.format.proofs.ListLaws.{length-starts_of}
use Rattle.types.specs.declared.TagTable.{TagTable}
use Rattle.opening.specs.Listing.{texts_in, starts_in, letters_in, TagsFit, TagsListed, BothFit, BothListed}

-- the loop over a table
pub record TagsLeft (m : List ℕ) (at left k : ℕ) (s l S L : List ℕ) : Type 0 where
  pub fine : Fine (many text left m at)
  pub room : k + left ≤ length s
  pub also : k + left ≤ length l
  pub starts : sets s k (starts_of at (list_of (many text left m at))) ≡ S
  pub letters : sets l k (map letter_of_text (list_of (many text left m at))) ≡ L

pub tags-start : (m : List ℕ) (t : TagTable) (first : ℕ) (s l : List ℕ) → TagsFit m t first s l → TagsLeft m t.start (t.count - 0) (first + 0) s l (sets s first (starts_in m t)) (sets l first (letters_in m t))
tags-start m t first s l y =
    let z : t.count - 0 ≡ t.count = omega arith in
    let w : first + 0 ≡ first = omega arith in
    rw (z, w) record { fine = y.fine; room = y.starts; also = y.letters; starts = refl; letters = refl }

none_left : (m : List ℕ) (left at : ℕ) → left ≤ 0 → many text left m at ≡ ok [] at
none_left m zero at h = refl
none_left m (suc n) at h = absurd (omega arith)

module _ (m : List ℕ) (at left k : ℕ) (s l S L : List ℕ) (y : TagsLeft m at left k s l S L) (b : 0 < left) where
  more : (p : Part) (e : ℕ) → text m at ≡ ok p e → TagsLeft m e (left - 1) (k + 1) (set s k at) (set l k (letter_of_text p)) S L
  more p e d =
      let r = rest text m left at b y.fine d in
      record {
        fine = r.fine;
        room = simp length-set (omega (arith, y.room));
        also = simp length-set (omega (arith, y.also));
        starts = rw add-one (rw (r.list, ← text-end m at p e d) at y.starts);
        letters = rw add-one (rw r.list at y.letters);
      }

-- text i of n
module _ (m : List ℕ) (at n i first : ℕ) (s l S L : List ℕ) (y : TagsLeft m at (n - i) (first + i) s l S L) where
  pub tags-more : (p : Span) (e x : ℕ) → i < n → ok (part_in m p) e ≡ text m at → x ≡ letter_of_text (part_in m p) → TagsLeft m e (n - (i + 1)) (first + (i + 1)) (set s (first + i) at) (set l (first + i) x) S L
  tags-more p e x b q h =
      let z : n - i - 1 ≡ n - (i + 1) = omega arith in
      let w : first + i + 1 ≡ first + (i + 1) = omega arith in
      rw h (rw (z, w) at (more m at (n - i) (first + i) s l S L y (omega arith) (part_in m p) e (sym q)))

  -- the texts are readable
  pub tags-never : (r : Refusal) (t : TagTable) (s₀ l₀ : List ℕ) → i < n → refused r ≡ text m at → TagsListed m t first s₀ l₀ s l
  tags-never r t s₀ l₀ b q = rest-no text m (n - i) at (omega arith) y.fine (sym q)

pub tags-done : (m : List ℕ) (at n i first : ℕ) (s l : List ℕ) (t : TagTable) (s₀ l₀ : List ℕ) → TagsLeft m at (n - i) (first + i) s l (sets s₀ first (starts_in m t)) (sets l₀ first (letters_in m t)) → n ≤ i → TagsListed m t first s₀ l₀ s l
tags-done m at n i first s l t s₀ l₀ y h =
    let e = none_left m (n - i) at (omega arith) in
    record { starts = rw e at y.starts; letters = rw e at y.letters }

pub ruleset tags = (rules, tags-start, tags-more, tags-never, tags-done)

-- both tables
texts-count : (m : List ℕ) (t : TagTable) → Fine (texts_in m t) → length (list_of (texts_in m t)) ≡ t.count
texts-count m t f = many-count text m t.count t.start _ _ (fine-is (texts_in m t) f)

starts-count : (m : List ℕ) (t : TagTable) → Fine (texts_in m t) → length (starts_in m t) ≡ t.count
starts-count m t f = length-starts_of t.start (list_of (texts_in m t)) ∙ texts-count m t f

letters-count : (m : List ℕ) (t : TagTable) → Fine (texts_in m t) → length (letters_in m t) ≡ t.count
letters-count m t f = length-map (list_of (texts_in m t)) letter_of_text ∙ texts-count m t f

-- two runs of stores, of which the first starts at the front
two_runs : (xs ys l a b : List ℕ) (n : ℕ) → length xs ≡ n → n + length ys ≤ length l → a ≡ sets l 0 xs → b ≡ sets a n ys → b ≡ front (xs ++ ys) l
two_runs xs ys l a b n h r p q =
    let z : 0 + length xs ≡ n = omega arith in
    let k = length-append xs ys in
    let o = sets-append xs ys l 0 in
    q ∙ ap (λ a. sets a n ys) p ∙ sym (rw z at o) ∙ sets-front (xs ++ ys) l (omega arith)

module _ (m : List ℕ) (p w : TagTable) (s₀ l₀ : List ℕ) (y : BothFit m p w s₀ l₀) where
  pub first-fit : TagsFit m p 0 s₀ l₀
  first-fit = record { fine = y.poi; starts = omega (arith, y.starts); letters = omega (arith, y.letters) }

  module _ (s₁ l₁ : List ℕ) (d : TagsListed m p 0 s₀ l₀ s₁ l₁) where
    pub second-fit : TagsFit m w p.count s₁ l₁
    second-fit =
        let a = ap length d.starts ∙ length-sets s₀ 0 (starts_in m p) in
        let b = ap length d.letters ∙ length-sets l₀ 0 (letters_in m p) in
        record { fine = y.way; starts = omega (arith, y.starts); letters = omega (arith, y.letters) }

    pub both-done : (s l : List ℕ) → TagsListed m w p.count s₁ l₁ s l → BothListed m p w s₀ l₀ s l
    both-done s l f =
        let a = starts-count m w y.way in
        let b = letters-count m w y.way in
        record {
          starts = two_runs (starts_in m p) (starts_in m w) s₀ s₁ s p.count (starts-count m p y.poi) (omega (arith, y.starts)) d.starts f.starts;
          letters = two_runs (letters_in m p) (letters_in m w) l₀ l₁ l p.count (letters-count m p y.poi) (omega (arith, y.letters)) d.letters f.letters;
        }

-- no tags at all
pub both-none : (m : List ℕ) (p w : TagTable) (s l : List ℕ) → p.count + w.count ≡ 0 → BothListed m p w s l s l
both-none m p w s l h =
    let a = none_left m p.count p.start (omega arith) in
    let b = none_left m w.count w.start (omega arith) in
    record { starts = rw (a, b); letters = rw (a, b) }

pub ruleset boths = (rules, first-fit, second-fit, both-done, both-none)
