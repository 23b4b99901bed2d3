-- The kinds of rejections as numbers, in the order of docs/MESSAGES.md, and their places.
use Rattle.std.specs.Prelude.{◌≡◌, ◌≢◌, ◌⊎◌, ℕ, List, Result, Ok, Err}
use Rattle.gs_ai.specs.declared.errors.ElementFault.{ElementFault}
use Rattle.gs_ai.specs.declared.errors.ElementWhy.{ElementWhy}
use Rattle.gs_ai.specs.declared.errors.ElementWhy.TheVariants.{Value, Escape, Bracket}
use Rattle.gs_ai.specs.declared.errors.ValueFault.{ValueFault}
use Rattle.gs_ai.specs.declared.errors.ValueFault.TheVariants.{Unknown, Length, Char, Check, Date}
use Rattle.gs_bits.specs.declared.errors.HexFault.{HexFault}
use Rattle.gs_bits.specs.declared.errors.HexFault.TheVariants.{OddDigits, Full, BadDigit}
use Rattle.gs_epc.specs.declared.error.EpcFault.{EpcFault}
use Rattle.gs_epc.specs.declared.error.EpcFault.TheVariants.{Hex, NoReading, Memory}
use Rattle.gs_ident.specs.declared.errors.IdentFault.{IdentFault}
use Rattle.gs_ident.specs.declared.errors.IdentFault.TheVariants as ident
use Rattle.gs_translate.specs.Steps.{UnlessMemory}
use Rattle.gs_translate.specs.Translations.{IsTranslated, Translating}
use Rattle.gs_translate.specs.declared.reason.Reason.{Reason}
use Rattle.gs_translate.specs.declared.reason.Reason.TheVariants as reason
use Rattle.tdl_session.specs.declared.rejections.Found.{Found}

-- trusted, own: the number that stands for no place
abbrev pub nowhere : ℕ
nowhere = 18446744073709551615

-- trusted, own: a kind that has no place
abbrev pub of_kind : ℕ → Found
of_kind kind = record { kind = kind; at = nowhere; character = nowhere }

-- trusted, own: a kind with its place
abbrev pub at_byte : ℕ → ℕ → Found
at_byte kind at = record { kind = kind; at = at; character = nowhere }

-- trusted, own: the kind of an error of hexadecimal digits
abbrev pub hex_rejection : HexFault → Found
hex_rejection OddDigits = of_kind 2
hex_rejection Full = of_kind 3
hex_rejection (BadDigit place) = at_byte 4 place

-- trusted, own: the kind of an error of a tag or an EPC URI
abbrev pub epc_rejection : EpcFault → Found
epc_rejection (Hex error) = hex_rejection error
epc_rejection NoReading = of_kind 5
epc_rejection Memory = of_kind 0

-- trusted, own: the kind of an error of a value, with the place of its code; for a character, with its place in the value too
abbrev pub value_rejection : ℕ → ValueFault → Found
value_rejection at Unknown = at_byte 9 at
value_rejection at Length = at_byte 11 at
value_rejection at (Char place) = record { kind = 12; at = at; character = place }
value_rejection at Check = at_byte 13 at
value_rejection at Date = at_byte 14 at

-- trusted, own: the kind of an error of an element, with the place of its code
abbrev pub why_rejection : ℕ → ElementWhy → Found
why_rejection at (Value error) = value_rejection at error
why_rejection at Escape = at_byte 10 at
why_rejection at Bracket = at_byte 8 at

-- trusted, own: the kind of an element that is not valid
abbrev pub element_rejection : ElementFault → Found
element_rejection error = why_rejection error.at error.why

-- trusted, own: the kind of elements that have no identity
abbrev pub ident_rejection : IdentFault → Found
ident_rejection (ident.Repeat code) = of_kind 15
ident_rejection ident.NoKey = of_kind 16
ident_rejection (ident.TwoKeys code) = of_kind 17
ident_rejection ident.Memory = of_kind 0

-- trusted, own: the kind of each reason
abbrev pub rejection_of : Reason → Found
rejection_of reason.Long = of_kind 1
rejection_of (reason.Epc error) = epc_rejection error
rejection_of (reason.Element error) = element_rejection error
rejection_of reason.NotHttp = of_kind 6
rejection_of reason.NoKeyPath = of_kind 7
rejection_of (reason.Ident error) = ident_rejection error
rejection_of reason.NoKind = of_kind 18
rejection_of (reason.Extra code) = of_kind 19
rejection_of (reason.Missing name) = of_kind 20
rejection_of reason.NoOption = of_kind 21
rejection_of (reason.CannotHold field why) = of_kind 22
rejection_of reason.NoClass = of_kind 23
rejection_of reason.MissingElement = of_kind 20
rejection_of reason.NoWord = of_kind 24
rejection_of reason.Extended = of_kind 25
rejection_of reason.Toggle = of_kind 26
rejection_of (reason.Words said bits) = of_kind 27
rejection_of reason.Line = of_kind 28
rejection_of reason.TooLong = of_kind 29
rejection_of reason.Memory = of_kind 0

-- trusted, own: holds if the numbers say what was found
abbrev pub IsFound : Found → ℕ → ℕ → ℕ → Type 0
IsFound found kind at character = (kind ≡ found.kind) × (at ≡ found.at) × (character ≡ found.character)

-- trusted, own: holds if a caller is told so of an answer, or that memory ran out
abbrev pub IsWhySaid : Result (List ℕ) Reason → Found → ℕ → Type 0
IsWhySaid (Ok text) found status = (status ≡ 0) × (found ≡ of_kind 0)
IsWhySaid (Err why) found status =
    ((status ≡ 3) × (why ≡ reason.Memory) × (found ≡ of_kind 0)) ⊎ ((status ≡ 1) × (why ≢ reason.Memory) × (found ≡ rejection_of why))

-- trusted, own: holds if the kind and place say why the text has no translation, or that it has one; or memory ran out
pub record IsWhy (t : Translating) (text : List ℕ) (kind at character status : ℕ) : Type 0 where
  pub answer : Result (List ℕ) Reason
  pub is_translated : UnlessMemory answer (IsTranslated t text answer)
  pub found : Found
  pub is_said : IsWhySaid answer found status
  pub is_found : IsFound found kind at character
