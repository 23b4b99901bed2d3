-- Which of invalid arguments is wrong, and why. The faults are in an order, and the first is the answer.
use Rattle.std.specs.Prelude.{◌≡◌, ℕ, ◌+◌, ◌&&◌, ◌||◌, Bool, true, not, if◌then◌else◌, List, [], ◌∷◌, ◌++◌, Option, Some, None, codes, find, is_some, length, map, option_and_then, option_to_list, bytes_eq}
use Rattle.std.specs.List.{list_any}
use Rattle.tdl_arguments.specs.declared.command.Command.{Command}
use Rattle.tdl_arguments.specs.declared.name.Name.{Name}
use Rattle.tdl_arguments.specs.declared.name.NameRow.{NameRow}
use Rattle.tdl_arguments.specs.declared.wrong.Why.{Why}
use Rattle.tdl_arguments.specs.declared.wrong.Why.TheVariants.{MissingCommand, MissingSecondWord, MissingForm, MissingTarget, MissingLines, NotACommand, NotASecondWord, NotAForm, NotATarget, NotANumberOfLines, NotAnOption, Twice, MissingValue, OutOfRange, MissingOption, Vocabulary}
use Rattle.tdl_arguments.specs.declared.wrong.Wrong.{Wrong}
use Rattle.tdl_arguments.specs.CommandReads.{form_named}
use Rattle.tdl_arguments.specs.Commands.{command_words, names_of, operands_in_range}
use Rattle.tdl_arguments.specs.Names.{NamedPairs, has_name, in_range, is_given, name_named, name_word}

-- trusted, own: that the argument at `place` is wrong
abbrev pub wrong_at : ℕ → Why → Wrong
wrong_at place why = record { place = Some place; why = why }

-- trusted, own: that no argument is wrong, but that one is missing or the vocabulary does not fit the command
abbrev pub no_argument : Why → Wrong
no_argument why = record { place = None; why = why }

-- ---- the command

-- trusted, own: the fault of an operand: it is missing, or the one that is there is wrong
abbrev pub wrong_operand : ℕ → Why → Why → List (List ℕ) → Wrong
wrong_operand place missing wrong [] = no_argument missing
wrong_operand place missing wrong (word ∷ words) = wrong_at place wrong

-- trusted, own: the fault of the arguments after `translate`: of the first form, otherwise of the second
abbrev pub wrong_translation : List (List ℕ) → Wrong
wrong_translation [] = no_argument MissingForm
wrong_translation (word ∷ words) =
    if is_some (form_named word) then wrong_operand 2 MissingTarget NotATarget words else wrong_at 1 NotAForm

-- trusted, own: the fault of a first argument and of those after it, which begin with no command
abbrev pub wrong_by : List ℕ → List (List ℕ) → Wrong
wrong_by word words =
    if bytes_eq word (codes "canon") then wrong_operand 1 MissingForm NotAForm words
    else if bytes_eq word (codes "translate") then wrong_translation words
    else if bytes_eq word (codes "gen") then wrong_operand 1 MissingLines NotANumberOfLines words
    else if bytes_eq word (codes "class") || bytes_eq word (codes "dump") then wrong_operand 1 MissingSecondWord NotASecondWord words
    else wrong_at 0 NotACommand

-- trusted, own: the fault of arguments that begin with no command
abbrev pub wrong_command : List (List ℕ) → Wrong
wrong_command [] = no_argument MissingCommand
wrong_command (word ∷ words) = wrong_by word words

-- ---- the options

-- trusted, own: holds if `word` is that of a name of `row`
abbrev pub has_word : List ℕ → NameRow → Bool
has_word word row = has_name (λ name. bytes_eq (name_word name) word) row

-- trusted, own: holds if one of `rows` has the word
abbrev pub is_option : List NameRow → List ℕ → Bool
is_option rows word = list_any (has_word word) rows

-- trusted, own: holds if one of `rows` has the word, and the pairs `earlier` have a value of one of its names
abbrev pub is_repeated : List NameRow → NamedPairs → List ℕ → Bool
is_repeated rows earlier word = list_any (λ (row : NameRow). is_given earlier row && has_word word row) rows

-- trusted, own: why an option of the word `word` is wrong after `earlier`: no row has it, or its row is given
abbrev pub word_reason : List NameRow → NamedPairs → List ℕ → Option Why
word_reason rows earlier word =
    if not (is_option rows word) then Some NotAnOption
    else if is_repeated rows earlier word then Some Twice
    else None

-- trusted, own: why the name may not have `value`
abbrev pub range_reason : List ℕ → Name → Option Why
range_reason value name = if in_range name value then None else Some (OutOfRange name)

-- trusted, own: why the option of the word `word` may not have `value`
abbrev pub value_reason : List ℕ → List ℕ → Option Why
value_reason word value = option_and_then (range_reason value) (name_named word)

-- trusted, own: the list of the fault at `place`, if there is a reason
abbrev pub fault_at : ℕ → Option Why → List Wrong
fault_at place why = map (wrong_at place) (option_to_list why)

-- trusted, own: holds if `row` must be given, and the pairs do not give it
abbrev pub lacks : NamedPairs → NameRow → Bool
lacks pairs row = row.required && not (is_given pairs row)

-- trusted, own: the first row that must be given, and that the pairs do not give
abbrev pub first_lacking : NamedPairs → List NameRow → Option NameRow
first_lacking pairs rows = find (lacks pairs) rows

-- trusted, own: the faults of pairs that are right by themselves: a required option is missing, or the vocabulary
abbrev pub pairs_faults : List NameRow → NamedPairs → List Wrong
pairs_faults rows pairs = map (λ row. no_argument (MissingOption row)) (option_to_list (first_lacking pairs rows)) ++ (no_argument Vocabulary ∷ [])

-- trusted, own: the faults of the options `words` after the pairs `earlier`, the first of them at `place`: for each its word,
-- then its value, and at last those of all pairs
abbrev pub option_faults : List NameRow → NamedPairs → ℕ → List (List ℕ) → List Wrong
option_faults rows earlier place [] = pairs_faults rows earlier
option_faults rows earlier place (word ∷ []) = fault_at place (word_reason rows earlier word) ++ (wrong_at place MissingValue ∷ [])
option_faults rows earlier place (word ∷ value ∷ words) =
    fault_at place (word_reason rows earlier word) ++
    (fault_at (place + 1) (value_reason word value) ++ option_faults rows (earlier ++ ((word, value) ∷ [])) (place + 2) words)

-- ---- both

-- trusted, own: holds if `wrong` is the first of the faults
abbrev pub IsFirst : List Wrong → Wrong → Type 0
IsFirst [] wrong = ⊥
IsFirst (fault ∷ faults) wrong = wrong ≡ fault

-- trusted, own: holds if `words` are a command with operands in range, and then the arguments `parts.1`
abbrev pub BeginWith : List (List ℕ) → Command × List (List ℕ) → Type 0
BeginWith words parts = (words ≡ command_words parts.0 ++ parts.1) × (operands_in_range parts.0 ≡ true)

-- trusted, own: holds if `wrong` is the fault of the invalid arguments `words`: of their command if they begin with none,
-- otherwise the first of their options
pub data IsWrong (words : List (List ℕ)) (wrong : Wrong) : Type 0 where
  in_command : ((parts : Command × List (List ℕ)) → BeginWith words parts → ⊥) → wrong ≡ wrong_command words → IsWrong words wrong
  in_options : (parts : Command × List (List ℕ)) → BeginWith words parts
      → IsFirst (option_faults (names_of parts.0) [] (length (command_words parts.0)) parts.1) wrong → IsWrong words wrong
