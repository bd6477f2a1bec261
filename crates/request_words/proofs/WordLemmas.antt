-- How the lines of a text and the words of a line begin.
use Rattle.std.proofs.Common.{◌≡◌, ◌==◌, ◌+◌, ◌<◌, ◌≤◌, ℕ, suc, Bool, true, false, not, ◌&&◌, ◌||◌, cond, List, [], ◌∷◌, ◌++◌, length, take, drop, codes, get_or, nat_lt, true≢false, refl, ap, sym, ◌∙◌, Some, None, arith}
use Rattle.std.specs.List.{All, list_all, slice_split, onto_first, position_or_len, position, filter}
use Rattle.std.proofs.Common.{subst}
use Rattle.std.specs.Prelude.{IfSome, Option}
use Rattle.std.proofs.Math.Bool.{or-false}
use Rattle.std.proofs.lemmas.Bool.{and_from, and_parts, cond-true, cond-false, false_from_ne_true, le-ltb, lt-ltb, ltb-true, not-true}
use Rattle.std.proofs.lemmas.Bool.Decides.{nat_tests}
use Rattle.std.proofs.lemmas.List.{append-nil, append_assoc, drop_all, get_or-take, length-drop, length-take-le, take-append-drop, take_all}
use Rattle.std.proofs.Math.Seq.{take-append_seam}
use Rattle.std.proofs.lemmas.List.Elements.{All-cons, All-head, All-nil, All-tail}
use Rattle.std.proofs.lemmas.List.Quantifiers.{position-Some}
use Rattle.std.proofs.lemmas.List.Splits.{slice_split_first, slice_split_none}
use Rattle.std.proofs.lemmas.List.Sums.{fails_before_first, passes_at_first, position_or_len_is, prefix_len-le-length}
use Rattle.std.proofs.lemmas.Slice.Eq.{bytes_eq-Decides}
use Rattle.std.specs.Str.{bytes_eq}
use Rattle.std.proofs.lemmas.Option.{cond_some}
use Rattle.std.proofs.Math.Seq.{drop-cons}
use Rattle.memchr.specs.Find.{IsFirstByte}
use Rattle.request_words.specs.FirstWords.{IsWord, after_word, first_word}
use Rattle.request_words.specs.Words.{is_empty, is_printable, line_words, text_lines}

-- ---- the first place of a byte

-- a search answers the first place that passes
pub first_is_position : (p : ℕ → Bool) (xs : List ℕ) (r : Option ℕ) → IsFirstByte p xs r → r ≡ position p xs
first_is_position p xs None none =
    let last : position_or_len p xs ≡ length xs =
    position_or_len_is p xs (length xs) 0 (omega arith) (λ k lt. false_from_ne_true _ (none k (omega arith) lt)) (λ lt. absurd (omega arith)) in
    sym (cond-false _ _ _ (le-ltb (position_or_len p xs) (length xs) (omega (arith, last))))
first_is_position p xs (Some k) (first, passes) =
    let high = first.high in
    let here : position_or_len p xs ≡ k = position_or_len_is p xs k 0 (omega arith) (λ j lt. false_from_ne_true _ (first.before j (omega arith) lt)) (λ lt. passes) in
    sym (cond-true _ _ _ (lt-ltb (position_or_len p xs) (length xs) (omega (arith, here, high))) ∙ ap Some here)

pub first_within : (p : ℕ → Bool) (xs : List ℕ) (r : Option ℕ) → IsFirstByte p xs r → IfSome r (λ k. k < length xs)
first_within p xs None none = tt
first_within p xs (Some k) (first, passes) = first.high

-- ---- lines

abbrev pub is_feed : ℕ → Bool
is_feed b = b == 10

-- a text with a line feed begins with the line before it
pub lines-first : (text : List ℕ) (end : ℕ) → position is_feed text ≡ Some end → text_lines text ≡ take end text ∷ text_lines (drop (end + 1) text)
lines-first text end found =
    let first = cond_some _ _ _ found in
    slice_split_first is_feed text 0 (ltb-true _ _ first.0) ∙ ap (λ (n : ℕ). take n text ∷ text_lines (drop (n + 1) text)) first.1

-- one without is a line
pub lines-last : (text : List ℕ) → position is_feed text ≡ None → text_lines text ≡ text ∷ []
lines-last text none =
    let n = position_or_len is_feed text in
    let short : length text ≤ n = grind (arith, nat_tests) in
    slice_split_none is_feed text (λ k d lt. fails_before_first is_feed text k d (omega arith))

-- ---- words

abbrev pub is_space : ℕ → Bool
is_space b = b == 32

abbrev pub is_other : ℕ → Bool
is_other b = not (b == 32)

abbrev is_word : List ℕ → Bool
is_word word = not (is_empty word)

words-is : (line : List ℕ) → line_words line ≡ filter is_word (slice_split is_space line)
unfolding line_words
words-is line = refl

-- a space before the words is dropped
words-space : (b : ℕ) (line : List ℕ) → is_space b ≡ true → line_words (b ∷ line) ≡ line_words line
unfolding line_words
words-space b line h = rw h refl

drop_spaces-step : (b : ℕ) (line : List ℕ) (n : ℕ) (s : Bool) → is_space b ≡ s → line_words (drop n line) ≡ line_words line → line_words (drop (cond (not (not s)) (1 + n) 0) (b ∷ line)) ≡ line_words (b ∷ line)
drop_spaces-step b line n true space h = let one : 1 + n ≡ suc n = omega arith in rw one (h ∙ sym (words-space b line space))
drop_spaces-step b line n false space h = refl

-- so are all spaces before the first word
pub words-drop_spaces : (line : List ℕ) → line_words (drop (position_or_len is_other line) line) ≡ line_words line
words-drop_spaces [] = refl
words-drop_spaces (b ∷ line) = drop_spaces-step b line _ (is_space b) refl (words-drop_spaces line)

-- the parts after the space with which a text begins
abbrev later_parts : List ℕ → List (List ℕ)
later_parts [] = []
later_parts (b ∷ rest) = slice_split is_space rest

-- the first word, and the parts after it
split-first : (text : List ℕ) → slice_split is_space text ≡ take (position_or_len is_space text) text ∷ later_parts (drop (position_or_len is_space text) text)
split-first [] = refl
split-first (b ∷ rest) = step (is_space b) (split-first rest)
  where
    step : (s : Bool) → slice_split is_space rest ≡ take (position_or_len is_space rest) rest ∷ later_parts (drop (position_or_len is_space rest) rest)
        → cond s ([] ∷ slice_split is_space rest) (onto_first b (slice_split is_space rest)) ≡ take (cond (not s) (1 + position_or_len is_space rest) 0) (b ∷ rest) ∷ later_parts (drop (cond (not s) (1 + position_or_len is_space rest) 0) (b ∷ rest))
    step true h = refl
    step false h = let one : 1 + position_or_len is_space rest ≡ suc (position_or_len is_space rest) = omega arith in rw one (ap (onto_first b) h)

-- what follows the first word has the words of the parts after it
words-after_first : (text : List ℕ) → line_words (drop (position_or_len is_space text) text) ≡ filter is_word (later_parts (drop (position_or_len is_space text) text))
words-after_first [] = words-is []
words-after_first (b ∷ rest) = step (is_space b) refl (words-after_first rest)
  where
    step : (s : Bool) → is_space b ≡ s → line_words (drop (position_or_len is_space rest) rest) ≡ filter is_word (later_parts (drop (position_or_len is_space rest) rest))
        → line_words (drop (cond (not s) (1 + position_or_len is_space rest) 0) (b ∷ rest)) ≡ filter is_word (later_parts (drop (cond (not s) (1 + position_or_len is_space rest) 0) (b ∷ rest)))
    step true space h = words-space b rest space ∙ words-is rest
    step false space h = let one : 1 + position_or_len is_space rest ≡ suc (position_or_len is_space rest) = omega arith in rw one h

-- a text that begins with no space begins with a word
words-word : (b : ℕ) (rest : List ℕ) → is_space b ≡ false → line_words (b ∷ rest) ≡ take (position_or_len is_space (b ∷ rest)) (b ∷ rest) ∷ line_words (drop (position_or_len is_space (b ∷ rest)) (b ∷ rest))
words-word b rest other =
    words-is (b ∷ rest) ∙ ap (filter is_word) (split-first (b ∷ rest)) ∙ kept ∙ ap (λ words. take (position_or_len is_space (b ∷ rest)) (b ∷ rest) ∷ words) (sym (words-after_first (b ∷ rest)))
  where
    later : List (List ℕ)
    later = later_parts (drop (position_or_len is_space (b ∷ rest)) (b ∷ rest))

    kept : filter is_word (take (position_or_len is_space (b ∷ rest)) (b ∷ rest) ∷ later) ≡ take (position_or_len is_space (b ∷ rest)) (b ∷ rest) ∷ filter is_word later
    kept = let one : 1 + position_or_len is_space rest ≡ suc (position_or_len is_space rest) = omega arith in rw (other, one) refl

-- a text with a space begins with the bytes before it
pub word-ends : (text : List ℕ) (end : ℕ) → position is_space text ≡ Some end → take end text ≡ take (position_or_len is_space text) text
word-ends text end found = ap (λ (n : ℕ). take n text) (sym (cond_some _ _ _ found).1)

-- and behind it are the words of what follows those bytes
pub words-after_space : (text : List ℕ) (end : ℕ) → position is_space text ≡ Some end → line_words (drop (end + 1) text) ≡ line_words (drop (position_or_len is_space text) text)
words-after_space text end found =
    let at = position-Some is_space text end 0 found in
    let here = drop-cons text end 0 at.0 in
    let one : end + 1 ≡ suc end = omega arith in
    ap (λ n. line_words (drop n text)) one ∙ sym (words-space _ _ at.1) ∙ ap line_words (sym here) ∙ ap (λ n. line_words (drop n text)) (sym (cond_some _ _ _ found).1)

-- one without a space is a word, with nothing behind it
none_before : (text : List ℕ) → position is_space text ≡ None → length text ≤ position_or_len is_space text
none_before text none = grind (arith, nat_tests)

pub word-is_all : (text : List ℕ) → position is_space text ≡ None → text ≡ take (position_or_len is_space text) text
word-is_all text none = sym (take_all (position_or_len is_space text) text (none_before text none))

pub words-after_all : (text : List ℕ) → position is_space text ≡ None → line_words (drop (length text) text) ≡ line_words (drop (position_or_len is_space text) text)
words-after_all text none = ap line_words (drop_all (length text) text (omega arith) ∙ sym (drop_all (position_or_len is_space text) text (none_before text none)))

-- a line of spaces has no words
pub words-none : (line : List ℕ) → position is_other line ≡ None → line_words line ≡ []
words-none line none =
    let n = position_or_len is_other line in
    let short : length line ≤ n = grind (arith, nat_tests) in
    sym (words-drop_spaces line) ∙ ap line_words (drop_all n line short) ∙ words-is []

-- the words of a line begin with its first word
pub words-first : (line : List ℕ) (start : ℕ) → position is_other line ≡ Some start
    → line_words line ≡ take (position_or_len is_space (drop start line)) (drop start line) ∷ line_words (drop (position_or_len is_space (drop start line)) (drop start line))
words-first line start found =
    let at = position-Some is_other line start 0 found in
    let first = cond_some _ _ _ found in
    let text = drop-cons line start 0 at.0 in
    sym (words-drop_spaces line) ∙ ap (λ n. line_words (drop n line)) first.1
    ∙ subst (λ (t : List ℕ). line_words t ≡ take (position_or_len is_space t) t ∷ line_words (drop (position_or_len is_space t) t)) (sym text) (words-word _ _ (not-true _ at.1))

-- ---- printable lines

-- a byte that is printable or ends a line
abbrev pub is_plain : ℕ → Bool
is_plain b = is_printable b || b == 10

abbrev IsPrintable : List ℕ → Type 0
IsPrintable line = list_all is_printable line ≡ true

-- one more printable byte on the first line
printable-onto_first : (b : ℕ) (lines : List (List ℕ)) → is_printable b ≡ true → All IsPrintable lines → All IsPrintable (onto_first b lines)
printable-onto_first b [] is all = All-cons IsPrintable (b ∷ []) [] (and_from (is_printable b) true is refl) (All-nil IsPrintable)
printable-onto_first b (line ∷ lines) is all =
    All-cons IsPrintable (b ∷ line) lines (and_from (is_printable b) (list_all is_printable line) is (All-head IsPrintable line lines all)) (All-tail IsPrintable line lines all)

-- a text of such bytes has printable lines
pub plain-lines : (text : List ℕ) → list_all is_plain text ≡ true → All IsPrintable (text_lines text)
plain-lines [] all = All-cons IsPrintable [] [] refl (All-nil IsPrintable)
plain-lines (b ∷ rest) all =
    let parts = and_parts (is_plain b) (list_all is_plain rest) all in
    by_feed (b == 10) refl parts.0 (plain-lines rest parts.1)
  where
    by_feed : (feed : Bool) → (b == 10) ≡ feed → is_plain b ≡ true → All IsPrintable (text_lines rest) → All IsPrintable (cond feed ([] ∷ text_lines rest) (onto_first b (text_lines rest)))
    by_feed true at is lines = All-cons IsPrintable [] (text_lines rest) refl lines
    by_feed false at is lines = printable-onto_first b (text_lines rest) (sym (or-false (is_printable b)) ∙ ap (λ (feed : Bool). is_printable b || feed) (sym at) ∙ is) lines

-- ---- the first word of a text

-- it ends at a space, or with the text
pub first_ends : (text : List ℕ) (end : ℕ) → end ≤ position_or_len is_space text → end ≤ length text → (end < length text → is_space (get_or text end 0) ≡ true)
    → position_or_len is_space text ≡ end
first_ends text end le in_text ends = position_or_len_is is_space text end 0 in_text (λ k lt. fails_before_first is_space text k 0 (omega arith)) ends

-- and goes on at another byte
pub first_goes_on : (text : List ℕ) (end : ℕ) → end ≤ position_or_len is_space text → end < length text → is_space (get_or text end 0) ≡ false
    → end < position_or_len is_space text
first_goes_on text end le lt other = by (nat_lt end n) refl
  where
    n : ℕ
    n = position_or_len is_space text

    by : (b : Bool) → nat_lt end n ≡ b → end < n
    by true e = grind (arith, nat_tests)
    by false e =
        let same : n ≡ end = grind (arith, nat_tests) in
        let passes = subst (λ (k : ℕ). is_space (get_or text k 0) ≡ true) same (passes_at_first is_space text 0 (omega arith)) in
        absurd (true≢false (sym passes ∙ other))

-- its bytes are those of the text
pub first_at : (text : List ℕ) (end : ℕ) → end < position_or_len is_space text → get_or (first_word text) end 0 ≡ get_or text end 0
first_at text end lt = get_or-take (position_or_len is_space text) text end 0 lt

-- with bytes before it that are no spaces
pub first-behind : (front text : List ℕ) → list_all is_other front ≡ true → first_word (front ++ text) ≡ front ++ first_word text
first-behind [] text others = refl
first-behind (b ∷ front) text others =
    let parts = and_parts (is_other b) (list_all is_other front) others in
    let one : 1 + position_or_len is_space (front ++ text) ≡ suc (position_or_len is_space (front ++ text)) = omega arith in
    ap (λ (other : Bool). take (cond other (1 + position_or_len is_space (front ++ text)) 0) (b ∷ front ++ text)) parts.0
    ∙ ap (λ (n : ℕ). take n (b ∷ front ++ text)) one ∙ ap (λ (word : List ℕ). b ∷ word) (first-behind front text parts.1)

pub after-behind : (front text : List ℕ) → list_all is_other front ≡ true → after_word (front ++ text) ≡ after_word text
after-behind [] text others = refl
after-behind (b ∷ front) text others =
    let parts = and_parts (is_other b) (list_all is_other front) others in
    let one : 1 + position_or_len is_space (front ++ text) ≡ suc (position_or_len is_space (front ++ text)) = omega arith in
    ap (λ (other : Bool). drop (cond other (1 + position_or_len is_space (front ++ text)) 0) (b ∷ front ++ text)) parts.0
    ∙ ap (λ (n : ℕ). drop n (b ∷ front ++ text)) one ∙ after-behind front text parts.1

-- it is as long as its place says
pub first_length : (text : List ℕ) → length (first_word text) ≡ position_or_len is_space text
first_length text = let le = prefix_len-le-length is_other text in length-take-le (position_or_len is_space text) text le

-- what follows it is shorter than the text, but where it is empty
pub first_full : (text : List ℕ) → length (after_word text) < length text → is_empty (first_word text) ≡ false
first_full [] lt = absurd (omega arith)
first_full (b ∷ rest) lt = by (is_space b) lt
  where
    by : (space : Bool) → length (drop (cond (not space) (1 + position_or_len is_space rest) 0) (b ∷ rest)) < length (b ∷ rest)
        → is_empty (take (cond (not space) (1 + position_or_len is_space rest) 0) (b ∷ rest)) ≡ false
    by true lt = absurd (omega (arith, lt))
    by false lt = let one : 1 + position_or_len is_space rest ≡ suc (position_or_len is_space rest) = omega arith in rw one refl

pub first_none : (text : List ℕ) → length text ≤ length (after_word text) → first_word text ≡ []
first_none [] le = refl
first_none (b ∷ rest) le = by (is_space b) le
  where
    by : (space : Bool) → length (b ∷ rest) ≤ length (drop (cond (not space) (1 + position_or_len is_space rest) 0) (b ∷ rest))
        → take (cond (not space) (1 + position_or_len is_space rest) 0) (b ∷ rest) ≡ []
    by true le = refl
    by false le =
        let one : 1 + position_or_len is_space rest ≡ suc (position_or_len is_space rest) = omega arith in
        let short : length (b ∷ rest) ≤ length (drop (position_or_len is_space rest) rest) = subst (λ (n : ℕ). length (b ∷ rest) ≤ length (drop n (b ∷ rest))) one le in
        absurd (omega (arith, short, length-drop (position_or_len is_space rest) rest))

-- a text that begins with such bytes is those and the rest
pub begins_as : (text front : List ℕ) → bytes_eq (take (length front) text) front ≡ true → text ≡ front ++ drop (length front) text
begins_as text front is =
    sym (take-append-drop (length front) text) ∙ ap (λ (begin : List ℕ). begin ++ drop (length front) text) ((bytes_eq-Decides (take (length front) text) front).0 is)

-- where the text does not begin so, its first word does not
pub first_begins : (text front : List ℕ) → bytes_eq (take (length front) text) front ≡ false → bytes_eq (take (length front) (first_word text)) front ≡ false
first_begins text front not = false_from_ne_true (bytes_eq (take (length front) (first_word text)) front) (λ is.
    let word : first_word text ≡ front ++ drop (length front) (first_word text) = begins_as (first_word text) front is in
    let whole : text ≡ front ++ (drop (length front) (first_word text) ++ after_word text) =
    sym (take-append-drop (position_or_len is_space text) text) ∙ ap (λ (w : List ℕ). w ++ after_word text) word ∙ append_assoc front (drop (length front) (first_word text)) (after_word text) in
    let begins : take (length front) text ≡ front = ap (take (length front)) whole ∙ take-append_seam front (drop (length front) (first_word text) ++ after_word text) in
    true≢false (sym ((bytes_eq-Decides (take (length front) text) front).1 begins) ∙ not))

-- behind such a word and a space are the other words of the line
pub words-stripped : (word line : List ℕ) → IsWord word → bytes_eq (take (length word) line) word ≡ true → bytes_eq (take 1 (drop (length word) line)) (codes " ") ≡ true
    → line_words line ≡ word ∷ line_words (drop 1 (drop (length word) line))
words-stripped [] line (full, others) begins space = absurd (true≢false full)
words-stripped (b ∷ word) line (full, others) begins space =
    let behind : List ℕ = drop (length (b ∷ word)) line in
    let whole : line ≡ b ∷ word ++ behind = begins_as line (b ∷ word) begins in
    let next : behind ≡ 32 ∷ drop 1 behind = begins_as behind (codes " ") space in
    let parts = and_parts (is_other b) (list_all is_other word) others in
    let first : first_word (b ∷ word ++ behind) ≡ b ∷ word =
    first-behind (b ∷ word) behind others ∙ ap (λ (t : List ℕ). b ∷ word ++ first_word t) next ∙ append-nil (b ∷ word) in
    let after : line_words (after_word (b ∷ word ++ behind)) ≡ line_words (drop 1 behind) =
    ap line_words (after-behind (b ∷ word) behind others ∙ ap after_word next) ∙ words-space 32 (drop 1 behind) refl in
    ap line_words whole ∙ words-word b (word ++ behind) (not-true (is_space b) parts.0) ∙ ap (λ (w : List ℕ). w ∷ line_words (after_word (b ∷ word ++ behind))) first ∙ ap (λ (ws : List (List ℕ)). (b ∷ word) ∷ ws) after
