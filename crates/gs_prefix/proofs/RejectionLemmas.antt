-- The rejections of entries and of documents.
use Rattle.std.proofs.Common.{◌≡◌, ◌⊎◌, ℕ, ◌+◌, ◌<◌, ◌≤◌, nat_lt, nat_le, true, false, List, [], ◌∷◌, ◌++◌, length, take, map, Some, None, slice_get, refl, sym, ap, ◌∙◌, arith, inl, inr}
use Rattle.std.specs.Prelude.{Result, Ok, Err}
use Rattle.std.specs.List.{flat_map, enumerate_from, list_all, list_any}
use Rattle.std.specs.Str.{IsUtf8}
use Rattle.std.proofs.lemmas.Bool.Decides.{nat_tests}
use Rattle.std.proofs.lemmas.List.{take_all}
use Rattle.serde_json.specs.Data.{Data}
use Rattle.serde_json.specs.Read.{read as read_text}
use Rattle.gs_json.specs.Answers.{of_json}
use Rattle.gs_json.specs.Shapes.{IsFirst}
use Rattle.gs_json.specs.declared.error.JsonFault.{JsonFault}
use Rattle.gs_json.specs.declared.error.JsonFault.TheVariants as json
use Rattle.gs_prefix.specs.declared.entry.PrefixEntry.{PrefixEntry}
use Rattle.gs_prefix.specs.declared.error.PrefixFault.{PrefixFault}
use Rattle.gs_prefix.specs.declared.error.PrefixFault.TheVariants.{Json, BadPrefix, BadLength, Twice, Limit, Memory}
use Rattle.gs_chars.specs.Answers.{first_or, OrError}
use Rattle.gs_prefix.specs.Answers.{document_answer, load_answer}
use Rattle.gs_prefix.specs.AnswersSupport.{AddsEntry}
use Rattle.gs_prefix.specs.Documents.{entries_of, form_errors}
use Rattle.gs_prefix.specs.Lengths.{has_prefix, is_prefix}
use Rattle.gs_prefix.specs.LengthsSupport.{is_entry}
use Rattle.gs_prefix.specs.Rules.{entry_rejections, rejections, rejections_at}
use Rattle.gs_json.proofs.FirstErrors.{all_rows, first_in_front, judged, nothing_in_front, one_more, split_at}
use Rattle.gs_json.proofs.LookUpLemmas.{is_document, no_document}
use Rattle.gs_chars.proofs.ErrorAnswers.{no_error}
use Rattle.gs_chars.proofs.TruthsAndLists.{and_first, and_second, true_or_false, take_next}

-- ---- one entry

module _ (earlier : List PrefixEntry) (i : ℕ) (e : PrefixEntry) where
  pub bad_prefix : is_prefix e.prefix ≡ false → Err (BadPrefix i) ≡ first_or (entry_rejections earlier i e) (tt {0})
  unfolding entry_rejections
  bad_prefix h = rw h refl

  pub bad_length : is_prefix e.prefix ≡ true → 12 < e.length → Err (BadLength i) ≡ first_or (entry_rejections earlier i e) (tt {0})
  unfolding entry_rejections
  bad_length h long = let l : nat_lt 12 e.length ≡ true = grind (arith, nat_tests) in rw (h, l) refl

  pub twice : is_prefix e.prefix ≡ true → e.length ≤ 12 → list_any (has_prefix e.prefix) earlier ≡ true
      → Err (Twice i) ≡ first_or (entry_rejections earlier i e) (tt {0})
  unfolding entry_rejections
  twice h short t = let l : nat_lt 12 e.length ≡ false = grind (arith, nat_tests) in rw (h, l, t) refl

  pub in_order : is_prefix e.prefix ≡ true → e.length ≤ 12 → list_any (has_prefix e.prefix) earlier ≡ false
      → Ok (tt {0}) ≡ first_or (entry_rejections earlier i e) (tt {0})
  unfolding entry_rejections
  in_order h short t = let l : nat_lt 12 e.length ≡ false = grind (arith, nat_tests) in rw (h, l, t) refl

  -- the facts that the absence of a rejection gives
  pub record Kept : Type 0 where
    pub prefix : is_prefix e.prefix ≡ true
    pub short : e.length ≤ 12
    pub fresh : list_any (has_prefix e.prefix) earlier ≡ false

  pub kept : Ok (tt {0}) ≡ first_or (entry_rejections earlier i e) (tt {0}) → Kept
  unfolding entry_rejections
  kept h = elim (true_or_false (is_prefix e.prefix)) [
    | inr p ↦ absurd (let g = rw p at h in let bad : Ok (tt {0}) ≡ Err (BadPrefix i) = g in cc)
    | inl p ↦ elim (true_or_false (nat_lt 12 e.length)) [
      | inl l ↦ absurd (let g = rw (p, l) at h in let bad : Ok (tt {0}) ≡ Err (BadLength i) = g in cc)
      | inr l ↦ elim (true_or_false (list_any (has_prefix e.prefix) earlier)) [
        | inl t ↦ absurd (let g = rw (p, l, t) at h in let bad : Ok (tt {0}) ≡ Err (Twice i) = g in cc)
        | inr t ↦ record { prefix = p; short = grind (arith, nat_tests); fresh = t }
      ]
    ]
  ]

  nothing : Ok (tt {0}) ≡ first_or (entry_rejections earlier i e) (tt {0}) → entry_rejections earlier i e ≡ []
  nothing h = nothing_in_front Memory (entry_rejections earlier i e) (tt {0}) (tt {0}) (inr h)

-- ---- the entries of a list

all_more : (es : List PrefixEntry) (e : PrefixEntry) → list_all is_entry es ≡ true → is_entry e ≡ true → list_all is_entry (es ++ e ∷ []) ≡ true
all_more [] e h t = rw t refl
all_more (x ∷ es) e h t = rw (and_first (is_entry x) (list_all is_entry es) h) (all_more es e (and_second (is_entry x) (list_all is_entry es) h) t)

is_kept : (e : PrefixEntry) → is_prefix e.prefix ≡ true → e.length ≤ 12 → is_entry e ≡ true
is_kept e p short = let l : nat_le e.length 12 ≡ true = grind (arith, nat_tests) in rw (p, l) refl

pub limit_passed : (es : List PrefixEntry) → 65536 < length es → OrError {X = List PrefixEntry} Memory (Err Limit) (first_or (rejections es) es)
unfolding rejections
limit_passed es h = let l : nat_lt 65536 (length es) ≡ true = grind (arith, nat_tests) in rw l (inr refl)

-- the facts about the entries before an index
pub record SoFar (entries index : List PrefixEntry) (i : ℕ) : Type 0 where
  pub held : index ≡ take i entries
  pub in_order : list_all is_entry index ≡ true
  pub none : flat_map (rejections_at entries) (enumerate_from 0 (take i entries)) ≡ []

within_limit : (es : List PrefixEntry) → length es ≤ 65536 → rejections es ≡ flat_map (rejections_at es) (enumerate_from 0 es)
unfolding rejections
within_limit es h = let l : nat_lt 65536 (length es) ≡ false = grind (arith, nat_tests) in rw l refl

-- an entry was rejected after entries that none rejects
pub entry_rejected : (entries index : List PrefixEntry) (i : ℕ) (x : PrefixEntry) (e : PrefixFault) → length entries ≤ 65536
    → SoFar entries index i → slice_get entries i ≡ Some x → OrError Memory (Err e) (first_or (entry_rejections index i x) (tt {0}))
    → OrError {X = List PrefixEntry} Memory (Err e) (first_or (rejections entries) entries)
entry_rejected entries index i x e few so_far at h =
    let own = rw so_far.held at h in
    let split = split_at (rejections_at entries) entries i x at so_far.none in
    rw (within_limit entries few, split.1) (first_in_front Memory (rejections_at entries (i, x)) split.0 (tt {0}) entries e own)

-- an entry was added that no rule rejects
pub one_entry_more : (entries index new : List PrefixEntry) (i : ℕ) (x : PrefixEntry) → SoFar entries index i → slice_get entries i ≡ Some x
    → AddsEntry (Ok (tt {0})) i index new x → SoFar entries new (i + 1)
one_entry_more entries index new i x so_far at adds =
    let h = no_error Memory (tt {0}) (first_or (entry_rejections index i x) (tt {0})) adds.0 in
    let e = adds.1 in
    let k = kept index i x h in
    record {
      held = e ∙ rw so_far.held (sym (take_next entries i x at));
      in_order = rw e (all_more index x so_far.in_order (is_kept x k.prefix k.short));
      none = one_more (rejections_at entries) entries i x at so_far.none (nothing (take i entries) i x (rw so_far.held at h));
    }

pub all_entries : (entries index : List PrefixEntry) (i : ℕ) → length entries ≤ 65536 → length entries ≤ i → SoFar entries index i
    → OrError {X = List PrefixEntry} Memory (Ok index) (first_or (rejections entries) entries)
all_entries entries index i few all so_far =
    let whole : index ≡ entries = so_far.held ∙ take_all i entries all in
    let none : rejections entries ≡ [] = within_limit entries few ∙ all_rows (rejections_at entries) entries i all so_far.none in
    rw none (inr (ap Ok whole))

-- ---- the answer to bytes

pub not_json : (bytes : List ℕ) (error : JsonFault) → (error ≡ json.Syntax → IsUtf8 bytes → read_text bytes ≡ None)
    → (error ≡ json.Syntax) ⊎ (error ≡ json.Memory) → OrError {X = List PrefixEntry} Memory (Err (of_json Memory Json error)) (load_answer bytes)
unfolding load_answer
not_json bytes error none (inr m) = rw m (inl refl)
not_json bytes error none (inl s) = rw (s, no_document bytes (none s)) (inr refl)

pub document_is : (bytes : List ℕ) (d : Data) (answer : Result (List PrefixEntry) PrefixFault) → IsUtf8 bytes × (read_text bytes ≡ Some d)
    → OrError Memory answer (document_answer d) → OrError Memory answer (load_answer bytes)
unfolding load_answer
document_is bytes d answer is h = rw (is_document bytes d is) h

pub form_rejected : (d : Data) (error : JsonFault) → IsFirst (Err error) (form_errors d)
    → OrError {X = List PrefixEntry} Memory (Err (of_json Memory Json error)) (document_answer d)
unfolding document_answer
form_rejected d error h =
    first_in_front Memory (map Json (form_errors d)) (rejections (entries_of d)) (tt {0}) (entries_of d) (of_json Memory Json error)
    (judged Memory Json (form_errors d) error h)

pub entries_answer : (d : Data) (entries : List PrefixEntry) (z : Unit {0}) (answer : Result (List PrefixEntry) PrefixFault)
    → IsFirst (Ok z) (form_errors d) → entries ≡ entries_of d → OrError Memory answer (first_or (rejections entries) entries)
    → OrError Memory answer (document_answer d)
unfolding document_answer
entries_answer d entries z answer none e h = rw (nothing_in_front json.Memory (form_errors d) (tt {0}) z none) (rw e at h)
