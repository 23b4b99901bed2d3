-- The request that arguments make.
use Rattle.std.proofs.Common.{◌≡◌, ℕ, ◌≤◌, ◌&&◌, Bool, true, false, List, [], ◌∷◌, ◌++◌, Option, None, Some, append-nil, arith, drop, length, refl, subst, sym, ◌∙◌, ap, inl, inr}
use Rattle.std.specs.List.{list_all}
use Rattle.std.proofs.lemmas.Bool.{le-leb, leb-true, and_parts}
use Rattle.std.proofs.lemmas.List.{length-map}
use Rattle.std.specs.Borrow.{Bor}
use Rattle.std.specs.Prelude.{bytes_eq, codes, find, option_and_then, option_map}
use Rattle.gs_chars.proofs.TruthsAndLists.{equal_bytes, mapped_some, true_or_false}
use Rattle.gs_ident.proofs.PairLemmas.{found_passes}
use Rattle.gs_translate.specs.declared.form.Form.{Form}
use Rattle.gs_translate.specs.declared.form.Form.TheVariants as form
use Rattle.gs_translate.specs.declared.form.Target.{Target}
use Rattle.gs_translate.specs.declared.form.Target.TheVariants as target
use Rattle.gs_translate.specs.StepsSupport.{HasOne}
use Rattle.tdl_arguments.specs.declared.command.Command.{Command}
use Rattle.tdl_arguments.specs.declared.command.Command.TheVariants.{Canon, Translate, Check, Resolve, Serve, Gen, Migrate, ClassCanon, ClassUri, DumpRead, DumpWrite, Merge}
use Rattle.tdl_arguments.specs.CommandReads.{behind_name, canon_of, command_of, gen_of, form_named, forms, known_front, operated_of, or_else, plain_command, plain_commands, plain_of, stands_before, target_named, targets, translation_of}
use Rattle.tdl_arguments.specs.Commands.{command_name, command_words, form_word, operands_in_range, operands_of, target_word}
use Rattle.tdl_arguments.specs.Requests.{Asked, Asks, NotInOrder, WordsInOrder, asked_of}
use Rattle.tdl_arguments.specs.Ranges.{lines_of, most_lines}
use Rattle.tdl_arguments.specs.Wrongs.{BeginWith}
use Rattle.tdl_arguments.proofs.NumeralLemmas.{number_read, number_spelled}
use Rattle.tdl_arguments.proofs.PairLemmas.{same_pairs}

-- ---- forms by their words

form_read : (form : Form) → form_named (form_word form) ≡ Some form
form_read form.Hex = refl
form_read form.Tag = refl
form_read form.Pure = refl
form_read form.Raw = refl
form_read form.Bracketed = refl
form_read form.Link = refl

form_spelled : (word : List ℕ) (form : Form) → form_named word ≡ Some form → word ≡ form_word form
form_spelled word form e = equal_bytes word (form_word form) (found_passes (λ (f : Form). bytes_eq word (form_word f)) forms form e)

target_read : (target : Target) → target_named (target_word target) ≡ Some target
target_read target.Hex = refl
target_read target.Tag = refl
target_read target.Pure = refl
target_read target.Raw = refl
target_read target.Bracketed = refl
target_read target.Link = refl
target_read target.Canon = refl

target_spelled : (word : List ℕ) (target : Target) → target_named word ≡ Some target → word ≡ target_word target
target_spelled word target e = equal_bytes word (target_word target) (found_passes (λ (t : Target). bytes_eq word (target_word t)) targets target e)

-- ---- commands by their words

-- a command with its operands, and the arguments after it
abbrev Parts : Type 0
Parts = Command × List (List ℕ)

same_parts : (one other : Parts) → Some one ≡ Some other → one ≡ other
same_parts one other e = cc

-- the arguments of each command are read as it
command_read : (command : Command) (behind : List (List ℕ)) → operands_in_range command ≡ true
    → command_of (command_words command ++ behind) ≡ Some (command, behind)
command_read (Canon form) behind fits = rw (form_read form) refl
command_read (Translate from to) behind fits = rw (form_read from, target_read to) refl
command_read Check behind fits = refl
command_read Resolve behind fits = refl
command_read Serve behind fits = refl
command_read Migrate behind fits = refl
command_read ClassCanon behind fits = refl
command_read ClassUri behind fits = refl
command_read DumpRead behind fits = refl
command_read DumpWrite behind fits = refl
command_read Merge behind fits = refl
command_read (Gen lines) behind fits =
    let few : lines ≤ most_lines = leb-true lines most_lines fits in
    rw (number_read 0 most_lines lines (omega arith) (omega arith) few) refl

-- words before arguments, and the rest
stands_split : (front words : List (List ℕ)) → stands_before front words ≡ true → words ≡ front ++ drop (length front) words
stands_split [] words e = refl
stands_split (word ∷ front) [] e = absurd (let f : false ≡ true = e in cc)
stands_split (word ∷ front) (first ∷ words) e =
    let both = and_parts (bytes_eq first word) (stands_before front words) e in
    rw (equal_bytes first word both.0) (ap (λ ws. word ∷ ws) (stands_split front words both.1))

-- an item that is found among items with a property has it
found_has : {X : Type 0} (p property : X → Bool) (xs : List X) (x : X) → list_all property xs ≡ true → find p xs ≡ Some x → property x ≡ true
found_has p property [] x all e = absurd (let f : None ≡ Some x = e in cc)
found_has p property (y ∷ xs) x all e = elim (true_or_false (p y)) as (λ _. property x ≡ true) [
  | inl is ↦
      let found : Some y ≡ Some x = rw is at e in
      let same : y ≡ x = cc in
      rw same at (and_parts (property y) (list_all property xs) all).0
  | inr not ↦ found_has p property xs x (and_parts (property y) (list_all property xs) all).1 (rw not at e)
]

abbrev is_empty : List (List ℕ) → Bool
is_empty [] = true
is_empty (word ∷ words) = false

no_word : (words : List (List ℕ)) → is_empty words ≡ true → words ≡ []
no_word [] e = refl
no_word (word ∷ words) e = absurd (let f : false ≡ true = e in cc)

-- a command without operands
plain_spelled : (words : List (List ℕ)) (parts : Parts) → plain_of words ≡ Some parts → BeginWith words parts
plain_spelled words parts e =
    let m = mapped_some (behind_name words) (plain_command words) parts e in
    let stands = found_passes (λ (command : Command). stands_before (command_name command) words) plain_commands m.0 m.1 in
    let split = stands_split (command_name m.0) words stands in
    let plain = and_parts _ _ (found_has (λ (command : Command). stands_before (command_name command) words) (λ command. is_empty (operands_of command) && operands_in_range command) plain_commands m.0 refl m.1) in
    let of_found : BeginWith words (behind_name words m.0) = rw (no_word (operands_of m.0) plain.0, append-nil (command_name m.0)) (split, plain.1) in
    subst (λ (p : Parts). BeginWith words p) m.2 of_found

-- words with which arguments begin are at most as many as these
stands_length : (front words : List (List ℕ)) → stands_before front words ≡ true → length front ≤ length words
stands_length [] words e = omega arith
stands_length (word ∷ front) [] e = absurd (let f : false ≡ true = e in cc)
stands_length (word ∷ front) (first ∷ words) e =
    let fewer = stands_length front words (and_parts (bytes_eq first word) (stands_before front words) e).1 in
    omega arith

-- the words of the command without operands that arguments begin with are at most as many as these
pub plain_count : (front : List (Bor (List ℕ))) (words : List (List ℕ)) (count : ℕ) (found : Option Command) (command : Command)
    → found ≡ plain_command words → found ≡ Some command → known_front front ≡ command_name command → length words ≡ count
    → length front ≤ count
plain_count front words count found command is was same counted =
    let stands = found_passes (λ (command : Command). stands_before (command_name command) words) plain_commands command (sym is ∙ was) in
    let fewer = stands_length (command_name command) words stands in
    let fronts : length front ≡ length (command_name command) = sym (length-map front (λ (word : Bor (List ℕ)). word.now)) ∙ ap length same in
    omega (arith, fewer, fronts, counted)

canon_spelled : (words : List (List ℕ)) (parts : Parts) → canon_of words ≡ Some parts → BeginWith (codes "canon" ∷ words) parts
canon_spelled [] parts e = absurd (let f : None ≡ Some parts = e in cc)
canon_spelled (word ∷ words) parts e =
    let m = mapped_some (λ (f : Form). let p : Parts = (Canon f, words) in p) (form_named word) parts e in
    let made : Parts = (Canon m.0, words) in
    let of_made : BeginWith (codes "canon" ∷ word ∷ words) made = (ap (λ (w : List ℕ). codes "canon" ∷ w ∷ words) (form_spelled word m.0 m.1), refl) in
    subst (λ (p : Parts). BeginWith (codes "canon" ∷ word ∷ words) p) m.2 of_made

translation_spelled : (words : List (List ℕ)) (parts : Parts) → translation_of words ≡ Some parts → BeginWith (codes "translate" ∷ words) parts
translation_spelled [] parts e = absurd (let f : None ≡ Some parts = e in cc)
translation_spelled (word ∷ []) parts e = absurd (let f : None ≡ Some parts = e in cc)
translation_spelled (from ∷ to ∷ words) parts e = by (form_named from) refl (target_named to) refl e
  where
    by : (o : Option Form) → form_named from ≡ o → (p : Option Target) → target_named to ≡ p → option_and_then
        (λ (f : Form). option_map (λ (t : Target). let p : Parts = (Translate f t, words) in p) p) o ≡ Some parts → BeginWith
        (codes "translate" ∷ from ∷ to ∷ words) parts
    by None n p m f = absurd (let g : None ≡ Some parts = f in cc)
    by (Some form) n None m f = absurd (let g : None ≡ Some parts = f in cc)
    by (Some form) n (Some target) m f =
        let same = same_parts (Translate form target, words) parts f in
        rw (← same, form_spelled from form n, target_spelled to target m) (refl, refl)

gen_spelled : (words : List (List ℕ)) (parts : Parts) → gen_of words ≡ Some parts → BeginWith (codes "gen" ∷ words) parts
gen_spelled [] parts e = absurd (let f : None ≡ Some parts = e in cc)
gen_spelled (word ∷ words) parts e =
    let m = mapped_some (λ (n : ℕ). let p : Parts = (Gen n, words) in p) (lines_of word) parts e in
    let spelled = number_spelled 0 most_lines word m.0 (omega arith) m.1 in
    let few : m.0 ≤ most_lines = spelled.0 in
    let made : Parts = (Gen m.0, words) in
    let of_made : BeginWith (codes "gen" ∷ word ∷ words) made = (ap (λ (w : List ℕ). codes "gen" ∷ w ∷ words) spelled.1, le-leb m.0 most_lines few) in
    subst (λ (p : Parts). BeginWith (codes "gen" ∷ word ∷ words) p) m.2 of_made

operated_spelled : (words : List (List ℕ)) (parts : Parts) → operated_of words ≡ Some parts → BeginWith words parts
operated_spelled [] parts e = absurd (let f : None ≡ Some parts = e in cc)
operated_spelled (word ∷ words) parts e = elim (true_or_false (bytes_eq word (codes "canon"))) as (λ _. BeginWith (word ∷ words) parts) [
  | inl is ↦ rw (equal_bytes word (codes "canon") is) (canon_spelled words parts (rw is at e))
  | inr canon ↦ elim (true_or_false (bytes_eq word (codes "translate"))) as (λ _. BeginWith (word ∷ words) parts) [
    | inl is ↦ rw (equal_bytes word (codes "translate") is) (translation_spelled words parts (rw (canon, is) at e))
    | inr translate ↦ elim (true_or_false (bytes_eq word (codes "gen"))) as (λ _. BeginWith (word ∷ words) parts) [
      | inl is ↦ rw (equal_bytes word (codes "gen") is) (gen_spelled words parts (rw (canon, translate, is) at e))
      | inr gen ↦ absurd (let f : None ≡ Some parts = rw (canon, translate, gen) at e in cc)
    ]
  ]
]

-- arguments that are read as a command are its arguments
pub command_spelled : (words : List (List ℕ)) (parts : Parts) → command_of words ≡ Some parts → BeginWith words parts
command_spelled words parts e = by (plain_of words) refl e
  where
    by : (o : Option Parts) → plain_of words ≡ o → or_else o (operated_of words) ≡ Some parts → BeginWith words parts
    by None m f = operated_spelled words parts f
    by (Some found) m f = plain_spelled words parts (m ∙ f)

-- ---- the request

pub order_of : (words : List (List ℕ)) (parts : Parts) (asked : Asked) → command_of words ≡ Some parts → Asks parts.0 parts.1 asked → WordsInOrder words asked
order_of words parts asked e a = let spelled = command_spelled words parts e in record { command = parts.0; behind = parts.1; spelled = spelled.0; in_range = spelled.1; asks = a }

pub asks_of : (words : List (List ℕ)) (parts : Parts) (asked : Asked) → command_of words ≡ Some parts → WordsInOrder words asked → Asks parts.0 parts.1 asked
asks_of words parts asked e o =
    let same = same_parts parts (o.command, o.behind) (sym e ∙ ap command_of o.spelled ∙ command_read o.command o.behind o.in_range) in
    rw same o.asks

-- arguments that are read as no command begin with none
pub no_command : (words : List (List ℕ)) → command_of words ≡ None → (parts : Parts) → BeginWith words parts → ⊥
no_command words e parts b =
    let f : None ≡ Some parts = sym e ∙ ap command_of b.0 ∙ command_read parts.0 parts.1 b.1 in cc

pub not_in_order : (words : List (List ℕ)) → command_of words ≡ None → NotInOrder words
not_in_order words e asked o = no_command words e (o.command, o.behind) (o.spelled, o.in_range)

-- ---- one request

same_asks : (command : Command) (words : List (List ℕ)) (one other : Asked) → Asks command words one → Asks command words other → one ≡ other
same_asks command words one other a b =
    let pairs = same_pairs words a.pairs b.pairs a.of_rows.are b.of_rows.are in
    a.is ∙ ap (asked_of command) pairs ∙ sym b.is

-- a command, and the rest after it and its operands
record SameCommand (one other : Command) (behind behind' : List (List ℕ)) : Type 0 where
  commands : one ≡ other
  behinds : behind ≡ behind'

same_command : (one other : Command) (behind behind' : List (List ℕ)) → operands_in_range one ≡ true → operands_in_range other ≡ true
    → command_words one ++ behind ≡ command_words other ++ behind' → SameCommand one other behind behind'
same_command one other behind behind' fits fits' e =
    let both = same_parts (one, behind) (other, behind') (sym (command_read one behind fits) ∙ ap command_of e ∙ command_read other behind' fits') in
    record { commands = ap (λ (x : Parts). x.0) both; behinds = ap (λ (x : Parts). x.1) both }

pub one_request : (words : List (List ℕ)) → HasOne (WordsInOrder words)
one_request words one other a b =
    let same = same_command a.command b.command a.behind b.behind a.in_range b.in_range (sym a.spelled ∙ b.spelled) in
    let asks : Asks a.command a.behind other = rw (same.commands, same.behinds) b.asks in
    same_asks a.command a.behind one other a.asks asks
