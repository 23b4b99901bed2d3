-- Whether bytes are a head is decided: each piece of the grammar of `httparse` either begins a text or does not.
use Rattle.std.proofs.Common.{◌≡◌, ℕ, zero, suc, ◌<◌, ◌≤◌, Bool, true, false, List, [], ◌∷◌, ◌++◌, length, refl, sym, ap, ◌∙◌, subst, arith, inl, inr, append-nil, append_assoc, length-append}
use Rattle.std.specs.Prelude.{◌⊎◌}
use Rattle.std.specs.List.{flat_map}
use Rattle.std.specs.Str.{is_utf8}
use Rattle.std.proofs.lemmas.Bool.{cases_order, false≢true}
use Rattle.std.proofs.lemmas.List.Elements.{All-cons, All-head, All-nil, All-tail}
use Rattle.std.proofs.lemmas.Str.{IsUtf8-from_is_utf8, is_utf8-from_IsUtf8}
use Rattle.gs_chars.proofs.TruthsAndLists.{true_or_false}
use Rattle.httparse.specs.Grammar.{AllPass, Field, IsField, LineEnd, crlf, lf, is_token_byte, is_uri_byte, is_value_byte, print_blank, print_end, print_field, print_section, print_version}
use Rattle.httparse.specs.Pieces.{Begins, Blank, FieldLine, FieldLines, Newline, Piece, RequestStart, Section, Stops, Target, Text, Then, Version, Word, is_newline}
use Rattle.httparse.proofs.PieceLemmas.{IsDeterministic, Blank_deterministic, FieldLine_parts, Method_deterministic, Name_deterministic, RequestStart_deterministic, Section_line, Section_skip, Stops_value, Target_deterministic, Version_deterministic, Word_deterministic, colon_ends_token, newline_not_stopped, print_end_unique, print_field-append, space_ends_token}
use Rattle.httparse.proofs.RunLemmas.{run_unique}

-- the text begins with the piece, or it does not
abbrev pub Decided : {A : Type 0} → Piece A → List ℕ → Type 0
Decided G text = Begins G text ⊎ (Begins G text → ⊥)

-- one piece and then another
pub decide_then : {A B : Type 0} {G : Piece A} {H : Piece B} → IsDeterministic G → (text : List ℕ) → Decided G text
    → ((middle : List ℕ) → Decided H middle) → Decided (Then G H) text
decide_then {G} {H} det text first next = elim first [
  | inr none ↦ inr (λ x. none (x.0.0, x.2.0, x.2.1))
  | inl g ↦ elim (next g.1) [
    | inl h ↦ inl ((g.0, h.0), h.1, (g.1, g.2, h.2))
    | inr none ↦ inr (λ x.
        let same = det.unique x.0.0 g.0 text x.2.0 g.1 x.2.1 g.2 in
        none (x.0.1, x.1, subst (λ (m : List ℕ). H x.0.1 m x.1) same.1 x.2.2))
  ]
]

-- ---- line ends

equal_or_not : (a b : ℕ) → (a ≡ b) ⊎ (a ≡ b → ⊥)
equal_or_not a b = elim (cases_order a b) [
  | inl same ↦ inl same
  | inr apart ↦ elim apart [ inl below ↦ inr (λ e. omega arith) | inr above ↦ inr (λ e. omega arith) ]
]

pub front_decided : (front text : List ℕ) → ((rest : List ℕ) × (text ≡ front ++ rest)) ⊎ ((rest : List ℕ) → text ≡ front ++ rest → ⊥)
front_decided [] text = inl (text, refl)
front_decided (a ∷ front) [] = inr (λ rest e. let bad : ◌≡◌ {A = List ℕ} [] (a ∷ (front ++ rest)) = e in cc)
front_decided (a ∷ front) (c ∷ text) = elim (equal_or_not c a) [
  | inr other ↦ inr (λ rest e. other (let whole : c ∷ text ≡ a ∷ (front ++ rest) = e in cc))
  | inl same ↦ elim (front_decided front text) [
    | inl found ↦ inl (found.0, let e = found.1 in cc)
    | inr none ↦ inr (λ rest e. none rest (let whole : c ∷ text ≡ a ∷ (front ++ rest) = e in cc))
  ]
]

no_end : (text : List ℕ) → ((rest : List ℕ) → text ≡ print_end crlf ++ rest → ⊥) → ((rest : List ℕ) → text ≡ print_end lf ++ rest → ⊥)
    → (end : LineEnd) (rest : List ℕ) → text ≡ print_end end ++ rest → ⊥
no_end text a b crlf rest e = a rest e
no_end text a b lf rest e = b rest e

pub newline_decided : (text : List ℕ) → Decided Newline text
newline_decided text = elim (front_decided (print_end crlf) text) [
  | inl found ↦ inl (crlf, found.0, found.1)
  | inr a ↦ elim (front_decided (print_end lf) text) [
    | inl found ↦ inl (lf, found.0, found.1)
    | inr b ↦ inr (λ x. no_end text a b x.0 x.1 x.2)
  ]
]

end_length : (end : LineEnd) (text rest : List ℕ) → text ≡ print_end end ++ rest → length rest < length text
end_length crlf text rest e = rw e (omega arith)
end_length lf text rest e = rw e (omega arith)

-- ---- empty lines

-- without a line end there are no empty lines
no_lines : (text : List ℕ) → (Begins Newline text → ⊥) → (ends : List LineEnd) (rest : List ℕ) → Blank ends text rest → text ≡ rest
no_lines text none [] rest x = x.0
no_lines text none (end ∷ ends) rest x = absurd (none (end, print_blank ends ++ rest, x.0 ∙ append_assoc (print_end end) (print_blank ends) rest))

blank_here : (text : List ℕ) → (Begins Newline text → ⊥) → Decided Blank text
blank_here [] none = inr (λ x. subst (Stops is_newline) (sym (no_lines [] none x.0 x.1 x.2)) x.2.1)
blank_here (c ∷ text) none = elim (true_or_false (is_newline c)) [
  | inr other ↦ inl ([], c ∷ text, (refl, other))
  | inl newline ↦ inr (λ x.
      let stops = subst (Stops is_newline) (sym (no_lines (c ∷ text) none x.0 x.1 x.2)) x.2.1 in
      false≢true (sym stops ∙ newline))
]

-- after a line end, the empty lines are one more
blank_behind : (end : LineEnd) (text middle : List ℕ) → text ≡ print_end end ++ middle → (ends : List LineEnd) (rest : List ℕ)
    → Blank ends text rest → Begins Blank middle
blank_behind end text middle e [] rest x = absurd (newline_not_stopped end middle rest (sym e ∙ x.0) x.1)
blank_behind end text middle e (other ∷ ends) rest x =
    let same = print_end_unique end other middle (print_blank ends ++ rest) (sym e ∙ x.0 ∙ append_assoc (print_end other) (print_blank ends) rest) in
    (ends, rest, (same.1, x.1))

blank_more : (end : LineEnd) (text middle : List ℕ) → text ≡ print_end end ++ middle → Decided Blank middle → Decided Blank text
blank_more end text middle e (inl found) = inl (end ∷ found.0, found.1, (e ∙ ap (λ rest. print_end end ++ rest) found.2.0 ∙ sym (append_assoc (print_end end) (print_blank found.0) found.1), found.2.1))
blank_more end text middle e (inr none) = inr (λ x. none (blank_behind end text middle e x.0 x.1 x.2))

blank_in : (n : ℕ) (text : List ℕ) → length text ≤ n → Decided Blank text
blank_in zero text small = elim (newline_decided text) [
  | inr none ↦ blank_here text none
  | inl found ↦ absurd (let less = end_length found.0 text found.1 found.2 in omega arith)
]
blank_in (suc n) text small = elim (newline_decided text) [
  | inr none ↦ blank_here text none
  | inl found ↦
      let less = end_length found.0 text found.1 found.2 in
      blank_more found.0 text found.1 found.2 (blank_in n found.1 (omega arith))
]

-- ---- words

module _ (test : ℕ → Bool) (stop : ℕ) (fails : test stop ≡ false) where
  abbrev Run : List ℕ → Type 0
  Run text = (word : List ℕ) × (rest : List ℕ) × AllPass test word × (text ≡ word ++ stop ∷ rest)

  no_run : (word rest : List ℕ) → [] ≡ word ++ stop ∷ rest → ⊥
  no_run [] rest e = cc
  no_run (b ∷ word) rest e = cc

  other_byte : (c : ℕ) (text : List ℕ) → test c ≡ false → (c ≡ stop → ⊥) → (word rest : List ℕ) → AllPass test word → c ∷ text ≡ word ++ stop ∷ rest → ⊥
  other_byte c text fails_here other [] rest all e = other (cc)
  other_byte c text fails_here other (b ∷ word) rest all e =
      let same : c ≡ b = cc in
      false≢true (sym fails_here ∙ ap test same ∙ All-head (λ v. test v ≡ true) b word all)

  run_behind : (c : ℕ) (text : List ℕ) → test c ≡ true → (word rest : List ℕ) → AllPass test word → c ∷ text ≡ word ++ stop ∷ rest → Run text
  run_behind c text passes [] rest all e =
      let same : c ≡ stop = cc in
      absurd (false≢true (sym fails ∙ sym (ap test same) ∙ passes))
  run_behind c text passes (b ∷ word) rest all e = (word, rest, All-tail (λ v. test v ≡ true) b word all, cc)

  run_decided : (text : List ℕ) → Run text ⊎ (Run text → ⊥)
  run_decided [] = inr (λ x. no_run x.0 x.1 x.3)
  run_decided (c ∷ text) = elim (true_or_false (test c)) [
    | inr fails_here ↦ elim (equal_or_not c stop) [
      | inl same ↦ inl ([], text, All-nil (λ v. test v ≡ true), ap (λ v. v ∷ text) same)
      | inr other ↦ inr (λ x. other_byte c text fails_here other x.0 x.1 x.2 x.3)
    ]
    | inl passes ↦ elim (run_decided text) [
      | inl found ↦ inl (c ∷ found.0, found.1, All-cons (λ v. test v ≡ true) c found.0 passes found.2, ap (λ rest. c ∷ rest) found.3)
      | inr none ↦ inr (λ x. none (run_behind c text passes x.0 x.1 x.2 x.3))
    ]
  ]

  word_by : (text word rest : List ℕ) → AllPass test word → text ≡ word ++ stop ∷ rest → Decided (Word test stop) text
  word_by text [] rest all e = inr (λ x.
      let same = (run_unique test [] x.0 (stop ∷ rest) (stop ∷ x.1) all x.2.1 fails fails (sym e ∙ x.2.2)).0 in
      let some = x.2.0 in
      let none : 0 ≡ length x.0 = ap length same in
      omega arith)
  word_by text (b ∷ word) rest all e = inl (b ∷ word, rest, (omega arith, all, e))

  pub word_decided : (text : List ℕ) → Decided (Word test stop) text
  word_decided text = elim (run_decided text) [
    | inl found ↦ word_by text found.0 found.1 found.2 found.3
    | inr none ↦ inr (λ x. none (x.0, x.1, x.2.1, x.2.2))
  ]

target_decided : (text : List ℕ) → Decided Target text
target_decided text = elim (word_decided is_uri_byte 32 refl text) [
  | inr none ↦ inr (λ x. none (x.0, x.1, x.2.0))
  | inl found ↦ elim (true_or_false (is_utf8 found.0)) [
    | inl passes ↦ inl (found.0, found.1, (found.2, IsUtf8-from_is_utf8 found.0 passes))
    | inr fails_here ↦ inr (λ x.
        let same = ((Word_deterministic is_uri_byte 32 refl).unique x.0 found.0 text x.1 found.1 x.2.0 found.2).0 in
        false≢true (sym fails_here ∙ ap is_utf8 (sym same) ∙ is_utf8-from_IsUtf8 x.0 x.2.1))
  ]
]

no_version : (text : List ℕ) → ((rest : List ℕ) → text ≡ print_version 0 ++ rest → ⊥)
    → ((rest : List ℕ) → text ≡ print_version 1 ++ rest → ⊥) → (minor : ℕ) (rest : List ℕ) → Version minor text rest → ⊥
no_version text a b zero rest x = a rest x.1
no_version text a b (suc zero) rest x = b rest x.1
no_version text a b (suc (suc minor)) rest x = let small = x.0 in omega arith

version_decided : (text : List ℕ) → Decided Version text
version_decided text = elim (front_decided (print_version 0) text) [
  | inl found ↦ inl (0, found.0, (omega arith, found.1))
  | inr a ↦ elim (front_decided (print_version 1) text) [
    | inl found ↦ inl (1, found.0, (omega arith, found.1))
    | inr b ↦ inr (λ x. no_version text a b x.0 x.1 x.2)
  ]
]

-- ---- field lines

no_text : (raw : List ℕ) (end : LineEnd) (rest : List ℕ) → [] ≡ raw ++ (print_end end ++ rest) → ⊥
no_text [] crlf rest e = cc
no_text [] lf rest e = cc
no_text (b ∷ raw) end rest e = cc

text_here : (c : ℕ) (text : List ℕ) → is_value_byte c ≡ false → (raw : List ℕ) (end : LineEnd) (rest : List ℕ) → AllPass is_value_byte raw
    → c ∷ text ≡ raw ++ (print_end end ++ rest) → Begins Newline (c ∷ text)
text_here c text fails_here [] end rest all e = (end, rest, e)
text_here c text fails_here (b ∷ raw) end rest all e =
    let same : c ≡ b = cc in
    absurd (false≢true (sym fails_here ∙ ap is_value_byte same ∙ All-head (λ v. is_value_byte v ≡ true) b raw all))

text_behind : (c : ℕ) (text : List ℕ) → is_value_byte c ≡ true → (raw : List ℕ) (end : LineEnd) (rest : List ℕ) → AllPass is_value_byte raw
    → c ∷ text ≡ raw ++ (print_end end ++ rest) → Begins Text text
text_behind c text passes [] end rest all e =
    let stops : is_value_byte c ≡ false = subst (Stops is_value_byte) (sym e) (Stops_value end rest) in
    absurd (false≢true (sym stops ∙ passes))
text_behind c text passes (b ∷ raw) end rest all e = ((raw, end), rest, (All-tail (λ v. is_value_byte v ≡ true) b raw all, cc))

text_decided : (text : List ℕ) → Decided Text text
text_decided [] = inr (λ x. no_text x.0.0 x.0.1 x.1 x.2.1)
text_decided (c ∷ text) = elim (true_or_false (is_value_byte c)) [
  | inl passes ↦ elim (text_decided text) [
    | inl found ↦ inl ((c ∷ found.0.0, found.0.1), found.1, (All-cons (λ v. is_value_byte v ≡ true) c found.0.0 passes found.2.0, ap (λ rest. c ∷ rest) found.2.1))
    | inr none ↦ inr (λ x. none (text_behind c text passes x.0.0 x.0.1 x.1 x.2.0 x.2.1))
  ]
  | inr fails_here ↦ elim (newline_decided (c ∷ text)) [
    | inl found ↦ inl (([], found.0), found.1, (All-nil (λ v. is_value_byte v ≡ true), found.2))
    | inr none ↦ inr (λ x. none (text_here c text fails_here x.0.0 x.0.1 x.1 x.2.0 x.2.1))
  ]
]

field_from : (text : List ℕ) (x : Begins (Then (Word is_token_byte 58) Text) text) → Begins FieldLine text
field_from text x =
    let f : Field = record { name = x.0.0; raw = x.0.1.0; end = x.0.1.1 } in
    let name = x.2.1 in
    let raw = x.2.2 in
    (f, x.1, (record { name = (name.0, name.1); raw = raw.0 }, name.2 ∙ ap (λ rest. f.name ++ 58 ∷ rest) raw.1 ∙ sym (print_field-append f x.1)))

field_decided : (text : List ℕ) → Decided FieldLine text
field_decided text = elim (decide_then Name_deterministic text (word_decided is_token_byte 58 colon_ends_token text) text_decided) [
  | inl found ↦ inl (field_from text found)
  | inr none ↦ inr (λ x. none ((x.0.name, (x.0.raw, x.0.end)), x.1, FieldLine_parts x.0 text x.1 x.2))
]

field_length : (f : Field) (text rest : List ℕ) → FieldLine f text rest → length rest < length text
field_length f text rest x =
    let whole = x.1 ∙ print_field-append f rest in
    let one = length-append f.name (58 ∷ (f.raw ++ (print_end f.end ++ rest))) in
    let two = length-append f.raw (print_end f.end ++ rest) in
    let three = length-append (print_end f.end) rest in
    let sum = ap length whole in
    omega arith

-- ---- sections

section_behind : (f : Field) (text middle : List ℕ) → FieldLine f text middle → (x : Begins Section text) → Begins Section middle
section_behind f text middle line x =
    let lines : FieldLines (f ∷ []) text middle =
    (All-cons IsField f [] line.0 (All-nil IsField), line.1 ∙ ap (λ front. front ++ middle) (sym (append-nil (print_field f)))) in
    let rest = Section_skip (f ∷ []) x.0.0 x.0.1 text middle x.1 lines x.2 in
    ((rest.0, x.0.1), x.1, rest.2)

section_more : (f : Field) (text middle : List ℕ) → FieldLine f text middle → (x : Begins Section middle) → Begins Section text
section_more f text middle line x =
    let fields = x.0.0 in
    let last = x.0.1 in
    let whole : text ≡ print_section (f ∷ fields) last ++ x.1 =
    line.1 ∙ ap (λ rest. print_field f ++ rest) x.2.1 ∙ sym (append_assoc (print_field f) (print_section fields last) x.1)
    ∙ ap (λ front. front ++ x.1) (sym (append_assoc (print_field f) (flat_map print_field fields) (print_end last))) in
    ((f ∷ fields, last), x.1, (All-cons IsField f fields line.0 x.2.0, whole))

section_here : (text : List ℕ) → (Begins FieldLine text → ⊥) → Decided Section text
section_here text no_field = elim (newline_decided text) [
  | inl end ↦ inl (([], end.0), end.1, (All-nil IsField, end.2))
  | inr none ↦ inr (λ x. elim (Section_line x.0 text x.1 x.2) [ inl line ↦ none line | inr line ↦ no_field line ])
]

section_next : (f : Field) (text middle : List ℕ) → FieldLine f text middle → Decided Section middle → Decided Section text
section_next f text middle line (inl found) = inl (section_more f text middle line found)
section_next f text middle line (inr none) = inr (λ x. none (section_behind f text middle line x))

section_in : (n : ℕ) (text : List ℕ) → length text ≤ n → Decided Section text
section_in zero text small = elim (field_decided text) [
  | inr none ↦ section_here text none
  | inl found ↦ absurd (let less = field_length found.0 text found.1 found.2 in omega arith)
]
section_in (suc n) text small = elim (field_decided text) [
  | inr none ↦ section_here text none
  | inl found ↦
      let less = field_length found.0 text found.1 found.2 in
      section_next found.0 text found.1 found.2 (section_in n found.1 (omega arith))
]

-- ---- heads

pub head_decided : (text : List ℕ) → Decided (Then RequestStart Section) text
head_decided text =
    decide_then RequestStart_deterministic text
    (decide_then Blank_deterministic text (blank_in (length text) text (omega arith)) (λ a.
    decide_then Method_deterministic a (word_decided is_token_byte 32 space_ends_token a) (λ b.
    decide_then Target_deterministic b (target_decided b) (λ c.
    decide_then Version_deterministic c (version_decided c) newline_decided))))
    (λ rest. section_in (length rest) rest (omega arith))
