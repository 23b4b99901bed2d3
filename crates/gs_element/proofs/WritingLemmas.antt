-- The text that is written of pairs, and that it is read as these pairs.
use Rattle.std.proofs.Common.{◌≡◌, ℕ, ◌+◌, ◌<◌, ◌≤◌, Bool, true, if◌then◌else◌, List, [], ◌∷◌, ◌++◌, length, take, get_or, Option, Some, None, is_some, is_none, All, refl, sym, ap, subst, ◌∙◌, append_assoc, append-nil, ◌⊎◌, inl, inr, IsSome}
use Rattle.std.proofs.lemmas.Grind.{flat_map-append}
use Rattle.std.proofs.lemmas.List.{take_all, take_more}
use Rattle.std.proofs.lemmas.List.Elements.{All-cons, All-head, All-nil, All-tail}
use Rattle.gs_ai.specs.declared.pair.Pair.{Pair}
use Rattle.gs_ai.specs.declared.row.AiRow.{AiRow}
use Rattle.gs_ai.specs.PredefinedLengths.{predefined_length}
use Rattle.gs_ai.specs.Tables.{KeepsRules}
use Rattle.gs_ai.proofs.ValueLemmas.{code_of_row, predefined_kept}
use Rattle.gs_ident.specs.Elements.{Elements, pairs_of}
use Rattle.gs_ident.specs.Identities.{IsInOrder, IsMadeWith}
use Rattle.gs_element.specs.BracketedTexts.{bracketed_text, is_cut, written_character, written_value, IsBracketed, IsBracketedElement}
use Rattle.gs_element.specs.Joins.{Joined}
use Rattle.gs_element.specs.Raw.{body_of, raw_text, separator, IsRaw, IsRawElement}
use Rattle.gs_element.specs.WrittenTexts.{last_open, raw_behind, separator_of}
use Rattle.gs_element.proofs.BodyLemmas.{digit_body}
use Rattle.gs_element.proofs.RawLemmas.{digit_front}
use Rattle.gs_ident.proofs.KeyLemmas.{one_more as taken}

-- ---- element by element

raw_behind-append : (u : Bool) (a b : List Pair) → raw_behind u (a ++ b) ≡ raw_behind u a ++ raw_behind (last_open u a) b
raw_behind-append u [] b = refl
raw_behind-append u (p ∷ a) b =
    let v = is_none (predefined_length p.code) in
    let rest = raw_behind-append v a b in
    ap (λ (x : List ℕ). separator_of u ++ (p.code ++ (p.value ++ x))) rest
    ∙ ap (λ (x : List ℕ). separator_of u ++ (p.code ++ x)) (sym (append_assoc p.value (raw_behind v a) (raw_behind (last_open v a) b)))
    ∙ ap (λ (x : List ℕ). separator_of u ++ x) (sym (append_assoc p.code (p.value ++ raw_behind v a) (raw_behind (last_open v a) b)))
    ∙ sym (append_assoc (separator_of u) (p.code ++ (p.value ++ raw_behind v a)) (raw_behind (last_open v a) b))

last_open-append : (u : Bool) (a b : List Pair) → last_open u (a ++ b) ≡ last_open (last_open u a) b
last_open-append u [] b = refl
last_open-append u (p ∷ a) b = last_open-append (is_none (predefined_length p.code)) a b

pub one_written : (u : Bool) (pairs : List Pair) (i : ℕ) (pair : Pair) (base out closed coded new : List ℕ) → i < length pairs
    → pair ≡ get_or pairs i pair → out ≡ base ++ raw_behind u (take i pairs) → closed ≡ out ++ separator_of (last_open u (take i pairs))
    → coded ≡ closed ++ pair.code → new ≡ coded ++ pair.value → new ≡ base ++ raw_behind u (take (i + 1) pairs)
one_written u pairs i pair base out closed coded new low read e f g h =
    let done = raw_behind u (take i pairs) in
    let sep = separator_of (last_open u (take i pairs)) in
    let all : new ≡ (((base ++ done) ++ sep) ++ pair.code) ++ pair.value = h ∙ ap (λ (x : List ℕ). x ++ pair.value) (g ∙ ap (λ (x : List ℕ). x ++ pair.code) (f ∙ ap (λ (x : List ℕ). x ++ sep) e)) in
    let one : raw_behind (last_open u (take i pairs)) (pair ∷ []) ≡ sep ++ (pair.code ++ pair.value) = ap (λ (x : List ℕ). sep ++ (pair.code ++ x)) (append-nil pair.value) in
    let more : raw_behind u (take (i + 1) pairs) ≡ done ++ (sep ++ (pair.code ++ pair.value)) = ap (raw_behind u) (taken pairs i pair low read) ∙ raw_behind-append u (take i pairs) (pair ∷ []) ∙ ap (λ (x : List ℕ). done ++ x) one in
    all ∙ append_assoc ((base ++ done) ++ sep) pair.code pair.value ∙ append_assoc (base ++ done) sep
    (pair.code ++ pair.value) ∙ append_assoc base done (sep ++ (pair.code ++ pair.value)) ∙ ap (λ (x : List ℕ). base ++ x) (sym more)

pub one_open : (u : Bool) (pairs : List Pair) (i : ℕ) (pair : Pair) → i < length pairs → pair ≡ get_or pairs i pair
    → is_none (predefined_length pair.code) ≡ last_open u (take (i + 1) pairs)
one_open u pairs i pair low read = sym (ap (last_open u) (taken pairs i pair low read) ∙ last_open-append u (take i pairs) (pair ∷ []))

pub all_behind : (u : Bool) (pairs : List Pair) (i : ℕ) (base out : List ℕ) → length pairs ≤ i → out ≡ base ++ raw_behind u (take i pairs)
    → out ≡ base ++ raw_behind u pairs
all_behind u pairs i base out high e = e ∙ ap (λ (x : List Pair). base ++ raw_behind u x) (take_all i pairs high)

pub all_open : (u : Bool) (pairs : List Pair) (i : ℕ) (last : Bool) → length pairs ≤ i → last ≡ last_open u (take i pairs) → last ≡ last_open u pairs
all_open u pairs i last high e = e ∙ ap (last_open u) (take_all i pairs high)

-- ---- character by character

pub value_more : (value : List ℕ) (i : ℕ) (base out new : List ℕ) → i < length value → out ≡ base ++ written_value (take i value)
    → new ≡ out ++ written_character (get_or value i 0) → new ≡ base ++ written_value (take (i + 1) value)
value_more value i base out new low e f =
    let done : List ℕ = written_value (take i value) in
    let one : List ℕ = written_character (get_or value i 0) in
    let more : written_value (take (i + 1) value) ≡ done ++ one =
    ap written_value (take_more value i 0 low) ∙ flat_map-append written_character (take i value) (get_or value i 0 ∷ []) ∙ ap
    (λ (x : List ℕ). done ++ x) (append-nil one) in
    f ∙ ap (λ (x : List ℕ). x ++ one) e ∙ append_assoc base done one ∙ ap (λ (x : List ℕ). base ++ x) (sym more)

pub value_whole : (value : List ℕ) (i : ℕ) (base out : List ℕ) → length value ≤ i → out ≡ base ++ written_value (take i value)
    → out ≡ base ++ written_value value
value_whole value i base out high e = e ∙ ap (λ (x : List ℕ). base ++ written_value x) (take_all i value high)

-- ---- the whole text

separator_is : (r : Option ℕ) → (if is_some r then [] else 29 ∷ []) ≡ separator_of (is_none r)
separator_is None = refl
separator_is (Some n) = refl

raw_text_is : (pair : Pair) (pairs : List Pair)
    → raw_text (pair ∷ pairs) ≡ pair.code ++ (pair.value ++ raw_behind (is_none (predefined_length pair.code)) pairs)
raw_text_is pair [] = ap (λ (x : List ℕ). pair.code ++ x) (sym (append-nil pair.value))
raw_text_is pair (next ∷ pairs) =
    ap (λ (x : List ℕ). pair.code ++ (pair.value ++ (x ++ raw_text (next ∷ pairs)))) (separator_is (predefined_length pair.code))
    ∙ ap (λ (x : List ℕ). pair.code ++ (pair.value ++ (separator_of (is_none (predefined_length pair.code)) ++ x))) (raw_text_is next pairs)

pub all_written : (key : Pair) (qualifiers attributes : List Pair) (old coded valued some all : List ℕ) (u v : Bool)
    → coded ≡ old ++ key.code → valued ≡ coded ++ key.value → u ≡ is_none (predefined_length key.code)
    → some ≡ valued ++ raw_behind u qualifiers → v ≡ last_open u qualifiers → all ≡ some ++ raw_behind v attributes
    → all ≡ old ++ raw_text (key ∷ (qualifiers ++ attributes))
all_written key qualifiers attributes old coded valued some all u v e f g h j k =
    let w = is_none (predefined_length key.code) in
    let q = raw_behind w qualifiers in
    let a = raw_behind (last_open w qualifiers) attributes in
    let last : raw_behind v attributes ≡ a = ap (λ (x : Bool). raw_behind x attributes) (j ∙ ap (λ (x : Bool). last_open x qualifiers) g) in
    let first : some ≡ ((old ++ key.code) ++ key.value) ++ q = h ∙ ap (λ (x : List ℕ). x ++ raw_behind u qualifiers) (f ∙ ap (λ (x : List ℕ). x ++ key.value) e) ∙ ap (λ (x : Bool). ((old ++ key.code) ++ key.value) ++ raw_behind x qualifiers) g in
    let whole : all ≡ (((old ++ key.code) ++ key.value) ++ q) ++ a = k ∙ ap (λ (x : List ℕ). some ++ x) last ∙ ap (λ (x : List ℕ). x ++ a) first in
    let both : raw_behind w (qualifiers ++ attributes) ≡ q ++ a = raw_behind-append w qualifiers attributes in
    let text : raw_text (key ∷ (qualifiers ++ attributes)) ≡ key.code ++ (key.value ++ (q ++ a)) = raw_text_is key (qualifiers ++ attributes) ∙ ap (λ (x : List ℕ). key.code ++ (key.value ++ x)) both in
    whole ∙ append_assoc ((old ++ key.code) ++ key.value) q a ∙ append_assoc (old ++ key.code) key.value
    (q ++ a) ∙ append_assoc old key.code (key.value ++ (q ++ a)) ∙ ap (λ (x : List ℕ). old ++ x) (sym text)

-- ---- the parts of pairs that are all valid by a table

all_left : (P : Pair → Type 0) (a b : List Pair) → All P (a ++ b) → All P a
all_left P [] b h = All-nil P
all_left P (p ∷ a) b h = All-cons P p a (All-head P p (a ++ b) h) (all_left P a b (All-tail P p (a ++ b) h))

all_right : (P : Pair → Type 0) (a b : List Pair) → All P (a ++ b) → All P b
all_right P [] b h = h
all_right P (p ∷ a) b h = all_right P a b (All-tail P p (a ++ b) h)

module _ (rows : List AiRow) (key : Pair) (qualifiers attributes : List Pair) (valid : All (IsInOrder rows) (key ∷ (qualifiers ++ attributes))) where
  pub key_in_order : IsInOrder rows key
  key_in_order = All-head (IsInOrder rows) key (qualifiers ++ attributes) valid

  others : All (IsInOrder rows) (qualifiers ++ attributes)
  others = All-tail (IsInOrder rows) key (qualifiers ++ attributes) valid

  pub qualifiers_in_order : All (IsInOrder rows) qualifiers
  qualifiers_in_order = all_left (IsInOrder rows) qualifiers attributes others

  pub attributes_in_order : All (IsInOrder rows) attributes
  attributes_in_order = all_right (IsInOrder rows) qualifiers attributes others

-- ---- the written text is read

module _ (rows : List AiRow) (rules : KeepsRules rows) where
  some_or_not : (code : List ℕ) (r : Option ℕ) → predefined_length code ≡ r
      → (separator code ≡ 29 ∷ []) ⊎ ((separator code ≡ []) × IsSome (predefined_length code))
  some_or_not code None e = inl (rw e refl)
  some_or_not code (Some n) e = inr (rw e refl, rw e refl)

  closing : (code after : List ℕ) → (separator code ≡ 29 ∷ []) ⊎ ((separator code ≡ []) × (IsSome (predefined_length code) ⊎ (after ≡ [])))
  closing code after = elim (some_or_not code (predefined_length code) refl) [ inl one ↦ inl one | inr none ↦ inr (none.0, inl none.1) ]

  raw_joined : (pairs : List Pair) → All (IsInOrder rows) pairs → Joined (IsRawElement rows) pairs (raw_text pairs) []
  raw_joined [] all = refl
  raw_joined (pair ∷ []) all =
      let own = All-head (IsInOrder rows) pair [] all in (
        [],
        record {
          closing = [];
          text_is = ap (λ (x : List ℕ). pair.code ++ x) (sym (append-nil pair.value));
          in_order = own;
          predefined = predefined_kept rows rules pair.code pair.value own.fits;
          closed = inr (refl, inr refl);
        },
        refl,
      )
  raw_joined (pair ∷ next ∷ pairs) all =
      let own = All-head (IsInOrder rows) pair (next ∷ pairs) all in (
        raw_text (next ∷ pairs),
        record {
          closing = separator pair.code;
          text_is = refl;
          in_order = own;
          predefined = predefined_kept rows rules pair.code pair.value own.fits;
          closed = closing pair.code (raw_text (next ∷ pairs));
        },
        raw_joined (next ∷ pairs) (All-tail (IsInOrder rows) pair (next ∷ pairs) all),
      )

  body_is : (pair : Pair) (pairs : List Pair) → IsInOrder rows pair → body_of (raw_text (pair ∷ pairs)) ≡ raw_text (pair ∷ pairs)
  body_is pair pairs own =
      let digit = digit_front pair.code (code_of_row rows rules pair.code pair.value own.fits) in
      let rest = pair.value ++ raw_behind (is_none (predefined_length pair.code)) pairs in
      let text : raw_text (pair ∷ pairs) ≡ digit.digit ∷ (digit.others ++ rest) = raw_text_is pair pairs ∙ ap (λ (x : List ℕ). x ++ rest) digit.is in
      ap body_of text ∙ digit_body digit.digit (digit.others ++ rest) digit.of_digits ∙ sym text

  pub raw_read : (identity : Elements) → IsMadeWith rows identity → IsRaw rows (raw_text (pairs_of identity)) (pairs_of identity)
  raw_read identity made =
      let own = All-head (IsInOrder rows) identity.key (identity.qualifiers ++ identity.attributes) made.in_order in
      subst (λ (x : List ℕ). Joined (IsRawElement rows) (pairs_of identity) x [])
      (sym (body_is identity.key (identity.qualifiers ++ identity.attributes) own)) (raw_joined (pairs_of identity) made.in_order)

  next_cut : (pairs : List Pair) → is_cut (bracketed_text pairs) ≡ true
  next_cut [] = refl
  next_cut (pair ∷ pairs) = refl

  bracketed_joined : (pairs : List Pair) → All (IsInOrder rows) pairs → Joined (IsBracketedElement rows) pairs (bracketed_text pairs) []
  bracketed_joined [] all = refl
  bracketed_joined (pair ∷ pairs) all =
      (bracketed_text pairs, record { text_is = refl; in_order = All-head (IsInOrder rows) pair pairs all; cut = next_cut pairs }, bracketed_joined pairs (All-tail (IsInOrder rows) pair pairs all))

  pub bracketed_read : (identity : Elements) → IsMadeWith rows identity → IsBracketed rows (bracketed_text (pairs_of identity)) (pairs_of identity)
  bracketed_read identity made = bracketed_joined (pairs_of identity) made.in_order
