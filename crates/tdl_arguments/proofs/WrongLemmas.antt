-- The first fault of arguments.
use Rattle.std.proofs.Common.{◌≡◌, ℕ, zero, suc, ◌+◌, ◌-◌, ◌<◌, ◌≤◌, List, [], ◌∷◌, ◌++◌, Option, None, Some, drop, get_or, length, map, take, refl, sym, ◌∙◌, ap, subst, arith, length-append}
use Rattle.std.proofs.lemmas.List.{drop-map, drop_all, drop_more, length-map, take-map, take_all}
use Rattle.tdl_arguments.specs.declared.command.Command.{Command}
use Rattle.tdl_arguments.specs.declared.name.NameRow.{NameRow}
use Rattle.tdl_arguments.specs.declared.wrong.Why.{Why}
use Rattle.tdl_arguments.specs.declared.wrong.Why.TheVariants.{MissingValue}
use Rattle.tdl_arguments.specs.declared.wrong.Wrong.{Wrong}
use Rattle.tdl_arguments.specs.CommandReads.{command_of}
use Rattle.tdl_arguments.specs.Commands.{command_words, names_of}
use Rattle.tdl_arguments.specs.Names.{ArePairs, NamedPairs, OfPairs, no_pair, one_pair}
use Rattle.tdl_arguments.specs.Wrongs.{IsFirst, IsWrong, fault_at, in_command, in_options, option_faults, pairs_faults, value_reason, word_reason, wrong_at, wrong_command}
use Rattle.tdl_arguments.proofs.RequestLemmas.{command_spelled, no_command}

-- ---- the first of faults

first_here : (n : ℕ) (reason : Option Why) (why : Why) (faults : List Wrong) → reason ≡ Some why → IsFirst (fault_at n reason ++ faults) (wrong_at n why)
first_here n None why faults e = absurd (let f : None ≡ Some why = e in cc)
first_here n (Some y) why faults e = let same : why ≡ y = cc in ap (wrong_at n) same

none_here : (n : ℕ) (reason : Option Why) (faults : List Wrong) (wrong : Wrong) → reason ≡ None → IsFirst faults wrong → IsFirst (fault_at n reason ++ faults) wrong
none_here n None faults wrong e first = first
none_here n (Some y) faults wrong e first = absurd (let f : Some y ≡ None = e in cc)

-- ---- the options from a place on

-- the argument at a place, and the others after it
option_here : {S : Type 0} (bytes : S → List ℕ) (options : List S) (place : ℕ) (x : S) (word : List ℕ) → place < length options
    → x ≡ get_or options place x → bytes x ≡ word → map bytes (drop place options) ≡ word ∷ map bytes (drop (place + 1) options)
option_here bytes options place x word more here is =
    let first : bytes (get_or options place x) ≡ word = rw (← here) is in
    let split = drop_more options place x more in
    ap (map bytes) split ∙ ap (λ w. w ∷ map bytes (drop (place + 1) options)) first

-- the fault of all pairs
pub at_end : {S : Type 0} (bytes : S → List ℕ) (rows : List NameRow) (options : List S) (place n : ℕ) (earlier : NamedPairs) (wrong : Wrong)
    → place ≡ length options → OfPairs (map bytes options) (λ pairs. IsFirst (pairs_faults rows pairs) wrong)
    → ArePairs (map bytes (take place options)) earlier → IsFirst (option_faults rows earlier n (map bytes (drop place options))) wrong
at_end bytes rows options place n earlier wrong e faults are =
    let none : drop place options ≡ [] = drop_all place options (omega (arith, e)) in
    let all : take place options ≡ options = take_all place options (omega (arith, e)) in
    rw none (faults earlier (rw all at are))

word_first : (rows : List NameRow) (earlier : NamedPairs) (n : ℕ) (word : List ℕ) (words : List (List ℕ)) (why : Why)
    → word_reason rows earlier word ≡ Some why → IsFirst (option_faults rows earlier n (word ∷ words)) (wrong_at n why)
word_first rows earlier n word [] why e = first_here n (word_reason rows earlier word) why _ e
word_first rows earlier n word (value ∷ words) why e = first_here n (word_reason rows earlier word) why _ e

-- the fault of a word
pub at_word : {S : Type 0} (bytes : S → List ℕ) (rows : List NameRow) (options : List S) (place n : ℕ) (earlier : NamedPairs) (x : S) (word : List ℕ)
    (why : Why) → place < length options → x ≡ get_or options place x → bytes x ≡ word → Some why ≡ word_reason rows earlier word
    → IsFirst (option_faults rows earlier n (map bytes (drop place options))) (wrong_at n why)
at_word bytes rows options place n earlier x word why more here is e =
    rw (option_here bytes options place x word more here is) (word_first rows earlier n word (map bytes (drop (place + 1) options)) why (sym e))

-- the fault of a word without a value
pub at_last : {S : Type 0} (bytes : S → List ℕ) (rows : List NameRow) (options : List S) (place n : ℕ) (earlier : NamedPairs) (x : S) (word : List ℕ)
    → place + 1 ≡ length options → x ≡ get_or options place x → bytes x ≡ word → None ≡ word_reason rows earlier word
    → IsFirst (option_faults rows earlier n (map bytes (drop place options))) (wrong_at n MissingValue)
at_last bytes rows options place n earlier x word last here is e =
    let none : drop (place + 1) options ≡ [] = drop_all (place + 1) options (omega (arith, last)) in
    rw (option_here bytes options place x word (omega (arith, last)) here is, none)
    (none_here n (word_reason rows earlier word) _ _ (sym e) refl)

-- a word without a fault, and its value
both_here : {S : Type 0} (bytes : S → List ℕ) (options : List S) (place : ℕ) (x y : S) (word value : List ℕ) → place + 1 < length options
    → x ≡ get_or options place x → y ≡ get_or options (place + 1) y → bytes x ≡ word → bytes y ≡ value
    → map bytes (drop place options) ≡ word ∷ value ∷ map bytes (drop (place + 2) options)
both_here bytes options place x y word value more here next is is' =
    let two : place + 1 + 1 ≡ place + 2 = omega arith in
    option_here bytes options place x word (omega (arith, more)) here is ∙
    ap (λ ws. word ∷ ws) (option_here bytes options (place + 1) y value more next is' ∙ ap (λ k. value ∷ map bytes (drop k options)) two)

-- the fault of a value
pub at_value : {S : Type 0} (bytes : S → List ℕ) (rows : List NameRow) (options : List S) (place n : ℕ) (earlier : NamedPairs) (x y : S)
    (word value : List ℕ) (why : Why) → place + 1 < length options → x ≡ get_or options place x → y ≡ get_or options (place + 1) y
    → bytes x ≡ word → bytes y ≡ value → None ≡ word_reason rows earlier word → Some why ≡ value_reason word value
    → IsFirst (option_faults rows earlier n (map bytes (drop place options))) (wrong_at (n + 1) why)
at_value bytes rows options place n earlier x y word value why more here next is is' e f =
    rw (both_here bytes options place x y word value more here next is is')
    (none_here n (word_reason rows earlier word) _ _ (sym e) (first_here (n + 1) (value_reason word value) why _ (sym f)))

-- ---- one more pair

pairs_append : (words : List (List ℕ)) (pairs : NamedPairs) (n v : List ℕ) → ArePairs words pairs → ArePairs (words ++ (n ∷ v ∷ [])) (pairs ++ ((n, v) ∷ []))
pairs_append words pairs n v no_pair = one_pair n v [] [] no_pair
pairs_append words pairs n v (one_pair a b rest others are) = one_pair a b (rest ++ (n ∷ v ∷ [])) (others ++ ((n, v) ∷ [])) (pairs_append rest others n v are)

two_more : (words : List (List ℕ)) (place : ℕ) (word value : List ℕ) (rest : List (List ℕ)) → drop place words ≡ word ∷ value ∷ rest
    → take (place + 2) words ≡ take place words ++ (word ∷ value ∷ [])
two_more [] zero word value rest e = absurd (let f : [] ≡ word ∷ value ∷ rest = e in cc)
two_more [] (suc n) word value rest e = absurd (let f : [] ≡ word ∷ value ∷ rest = e in cc)
two_more (w ∷ words) zero word value rest e =
    let first : w ≡ word = cc in
    let others : words ≡ value ∷ rest = cc in
    rw (first, others) refl
two_more (w ∷ words) (suc n) word value rest e =
    let count : suc n + 2 ≡ suc (n + 2) = omega arith in
    ap (λ k. take k (w ∷ words)) count ∙ ap (λ ws. w ∷ ws) (two_more words n word value rest e)

-- the fault of the options after a pair without one
pub after_pair : {S : Type 0} (bytes : S → List ℕ) (rows : List NameRow) (options : List S) (place before : ℕ) (earlier : NamedPairs) (x y : S)
    (word value : List ℕ) (wrong : Wrong) → place + 1 < length options → x ≡ get_or options place x → y ≡ get_or options (place + 1) y
    → bytes x ≡ word → bytes y ≡ value → None ≡ word_reason rows earlier word → None ≡ value_reason word value
    → OfPairs (map bytes (take (place + 2) options)) (λ later. IsFirst (option_faults rows later (before + (place + 2)) (map bytes (drop (place + 2) options))) wrong)
    → ArePairs (map bytes (take place options)) earlier → IsFirst (option_faults rows earlier (before + place) (map bytes (drop place options))) wrong
after_pair bytes rows options place before earlier x y word value wrong more here next is is' e f faults are =
    let both = both_here bytes options place x y word value more here next is is' in
    let count : before + (place + 2) ≡ before + place + 2 = omega arith in
    let words : map bytes (take (place + 2) options) ≡ map bytes (take place options) ++ (word ∷ value ∷ []) =
    sym (take-map bytes (place + 2) options) ∙ two_more (map bytes options) place word value (map bytes (drop (place + 2) options)) (drop-map bytes place options ∙ both) ∙
    ap (λ ws. ws ++ (word ∷ value ∷ [])) (take-map bytes place options) in
    let later = faults (earlier ++ ((word, value) ∷ [])) (rw words (pairs_append (map bytes (take place options)) earlier word value are)) in
    rw both (none_here (before + place) (word_reason rows earlier word) _ _ (sym e)
    (none_here (before + place + 1) (value_reason word value) _ _ (sym f)
    (subst (λ k. IsFirst (option_faults rows (earlier ++ ((word, value) ∷ [])) k (map bytes (drop (place + 2) options))) wrong) count later)))

-- the fault of all options
pub from_start : {S : Type 0} (bytes : S → List ℕ) (rows : List NameRow) (options : List S) (before : ℕ) (wrong : Wrong)
    → OfPairs (map bytes (take 0 options)) (λ later. IsFirst (option_faults rows later (before + 0) (map bytes (drop 0 options))) wrong)
    → IsFirst (option_faults rows [] before (map bytes options)) wrong
from_start bytes rows options before wrong faults =
    let none : before + 0 ≡ before = omega arith in
    subst (λ k. IsFirst (option_faults rows [] k (map bytes options)) wrong) none (faults [] no_pair)

-- ---- the command

-- arguments that begin with no command
pub wrong_of_command : (words : List (List ℕ)) (wrong : Wrong) → command_of words ≡ None → wrong ≡ wrong_command words → IsWrong words wrong
wrong_of_command words wrong e is = in_command (no_command words e) is

-- the number of the arguments after a command and its operands
pub count_after : (words : List (List ℕ)) (parts : Command × List (List ℕ)) → command_of words ≡ Some parts
    → length words ≡ length (command_words parts.0) + length parts.1
count_after words parts e = ap length (command_spelled words parts e).0 ∙ length-append (command_words parts.0) parts.1

-- arguments that begin with a command
pub wrong_of_options : (words : List (List ℕ)) (parts : Command × List (List ℕ)) (before : ℕ) (wrong : Wrong) → command_of words ≡ Some parts
    → before + length parts.1 ≡ length words → IsFirst (option_faults (names_of parts.0) [] before parts.1) wrong → IsWrong words wrong
wrong_of_options words parts before wrong e count first =
    let counted = count_after words parts e in
    let same : before ≡ length (command_words parts.0) = omega (arith, count, counted) in
    in_options parts (command_spelled words parts e) (rw same at first)

-- the arguments after a command are not more than all
pub fewer_after : {S : Type 0} (bytes : S → List ℕ) (words behind : List S) (command : Command)
    → command_of (map bytes words) ≡ Some (command, map bytes behind) → length behind ≤ length words
fewer_after bytes words behind command e =
    let counted = count_after (map bytes words) (command, map bytes behind) e in
    let all = length-map words bytes in
    let some = length-map behind bytes in
    omega (arith, counted, all, some)

-- the first fault of the options after a command
pub wrong_behind : {S : Type 0} (bytes : S → List ℕ) (words behind : List S) (command : Command) (rows : List NameRow) (wrong : Wrong)
    → command_of (map bytes words) ≡ Some (command, map bytes behind) → rows ≡ names_of command
    → IsFirst (option_faults rows [] (length words - length behind) (map bytes behind)) wrong → IsWrong (map bytes words) wrong
wrong_behind bytes words behind command rows wrong e same first =
    let fewer = fewer_after bytes words behind command e in
    let all = length-map words bytes in
    let some = length-map behind bytes in
    wrong_of_options (map bytes words) (command, map bytes behind) (length words - length behind) wrong e
    (omega (arith, fewer, all, some)) (rw same at first)
