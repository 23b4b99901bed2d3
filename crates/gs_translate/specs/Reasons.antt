-- The printed reasons.
use Rattle.std.specs.Prelude.{ℕ, List, ◌∷◌, ◌++◌, codes, decimal}
use Rattle.gs_ai.specs.declared.errors.ElementFault.{ElementFault}
use Rattle.gs_ai.specs.declared.errors.ElementWhy.{ElementWhy}
use Rattle.gs_ai.specs.declared.errors.ElementWhy.TheVariants.{Value, Escape, Bracket}
use Rattle.gs_ai.specs.declared.errors.ValueFault.{ValueFault}
use Rattle.gs_ai.specs.declared.errors.ValueFault.TheVariants.{Unknown, Length, Char, Check, Date}
use Rattle.gs_bits.specs.declared.errors.HexFault.{HexFault}
use Rattle.gs_bits.specs.declared.errors.HexFault.TheVariants.{OddDigits, Full, BadDigit}
use Rattle.gs_tables_document.specs.declared.document.Field.{Field}
use Rattle.gs_tables_document.specs.declared.document.Field.TheVariants as field
use Rattle.gs_epc.specs.declared.error.EpcFault.{EpcFault}
use Rattle.gs_epc.specs.declared.error.EpcFault.TheVariants.{Hex, NoReading, Memory}
use Rattle.gs_grammar.specs.declared.error.Why.{Why}
use Rattle.gs_grammar.specs.declared.error.Why.TheVariants as why
use Rattle.gs_ident.specs.declared.errors.IdentFault.{IdentFault}
use Rattle.gs_ident.specs.declared.errors.IdentFault.TheVariants as ident
use Rattle.gs_translate.specs.declared.form.FieldName.{FieldName}
use Rattle.gs_translate.specs.declared.form.FieldName.TheVariants as missing
use Rattle.gs_translate.specs.declared.reason.Reason.{Reason}
use Rattle.gs_translate.specs.declared.reason.Reason.TheVariants as reason

-- trusted, own: the text of a word, a blank and a number in decimal
abbrev pub numbered : List ℕ → ℕ → List ℕ
numbered word n = word ++ (32 ∷ decimal n)

-- trusted, own: the text of a word and two numbers
abbrev pub numbered_twice : List ℕ → ℕ → ℕ → List ℕ
numbered_twice word i j = numbered (numbered word i) j

-- trusted, own: the text of why a text is not a hexadecimal text
abbrev pub hex_text : HexFault → List ℕ
hex_text OddDigits = codes "odd"
hex_text Full = codes "full"
hex_text (BadDigit place) = numbered (codes "digit") place

-- trusted, own: the text of why tag bits or an EPC URI have no meaning
abbrev pub epc_text : EpcFault → List ℕ
epc_text (Hex error) = hex_text error
epc_text NoReading = codes "reading"
epc_text Memory = codes "memory"

-- trusted, own: the text of an error of a value, with the place of its code; for a character, with its place in the value too
abbrev pub value_text : ℕ → ValueFault → List ℕ
value_text at Unknown = numbered (codes "unknown") at
value_text at Length = numbered (codes "length") at
value_text at (Char place) = numbered_twice (codes "char") at place
value_text at Check = numbered (codes "check") at
value_text at Date = numbered (codes "date") at

-- trusted, own: the text of why an element is not valid, with the place of its code
abbrev pub why_text : ℕ → ElementWhy → List ℕ
why_text at (Value error) = value_text at error
why_text at Escape = numbered (codes "escape") at
why_text at Bracket = numbered (codes "bracket") at

-- trusted, own: the text of an element that is not valid
abbrev pub element_text : ElementFault → List ℕ
element_text error = why_text error.at error.why

-- trusted, own: the text of why elements have no identity
abbrev pub ident_text : IdentFault → List ℕ
ident_text (ident.Repeat code) = codes "repeat " ++ code
ident_text ident.NoKey = codes "key"
ident_text (ident.TwoKeys code) = codes "keys " ++ code
ident_text ident.Memory = codes "memory"

-- trusted, own: the name of the missing field
abbrev pub missing_text : FieldName → List ℕ
missing_text missing.Gcp = codes "gcp"
missing_text missing.Serial = codes "serial"
missing_text missing.Filter = codes "filter"

-- trusted, own: the name of a field
abbrev pub field_text : Field → List ℕ
field_text field.Filter = codes "filter"
field_text field.Gcp = codes "gcp"
field_text field.Rest = codes "rest"
field_text field.Piece = codes "piece"
field_text field.Total = codes "total"
field_text field.Serial = codes "serial"

-- trusted, own: the text of why an item does not hold a value
abbrev pub held_text : Why → List ℕ
held_text why.Char = codes "char"
held_text why.Length = codes "length"
held_text why.Zero = codes "zero"
held_text why.Large = codes "large"

-- trusted, own: the text of the field that an option does not hold, and why
abbrev pub hold_text : Field → Why → List ℕ
hold_text field why = codes "hold " ++ (field_text field ++ (32 ∷ held_text why))

-- trusted, own: the text of each reason
abbrev pub reason_text : Reason → List ℕ
reason_text reason.Long = codes "long"
reason_text (reason.Epc error) = epc_text error
reason_text (reason.Element error) = element_text error
reason_text reason.NotHttp = codes "http"
reason_text reason.NoKeyPath = codes "path"
reason_text (reason.Ident error) = ident_text error
reason_text reason.NoKind = codes "kind"
reason_text (reason.Extra code) = codes "extra " ++ code
reason_text (reason.Missing name) = codes "missing " ++ missing_text name
reason_text reason.NoOption = codes "option"
reason_text (reason.CannotHold field why) = hold_text field why
reason_text reason.NoClass = codes "class"
reason_text reason.MissingElement = codes "missing element"
reason_text reason.NoWord = codes "word"
reason_text reason.Extended = codes "extended"
reason_text reason.Toggle = codes "toggle"
reason_text (reason.Words said bits) = numbered_twice (codes "words") said bits
reason_text reason.Line = codes "line"
reason_text reason.TooLong = codes "too-long"
reason_text reason.Memory = codes "memory"
