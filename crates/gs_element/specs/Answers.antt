-- The rejections of the readers.
use Rattle.std.specs.Prelude.{ℕ, List}
use Rattle.gs_ai.specs.declared.row.AiRow.{AiRow}
use Rattle.gs_element.specs.declared.errors.RawFault.{RawFault}
use Rattle.gs_element.specs.declared.errors.RawFault.TheVariants.{Element, Memory}
use Rattle.gs_element.specs.BracketedTexts.{IsBracketedError}
use Rattle.gs_element.specs.Raw.{IsRawError}

-- trusted, own: holds if the rejection is `Memory`, or the error of the unbracketed element string `text`
abbrev pub IsRawRejection : List AiRow → List ℕ → RawFault → Type 0
IsRawRejection table text (Element error) = IsRawError table text error
IsRawRejection table text Memory = Unit {0}

-- trusted, own: holds if the rejection is `Memory`, or the error of the bracketed element string `text`
abbrev pub IsBracketedRejection : List AiRow → List ℕ → RawFault → Type 0
IsBracketedRejection table text (Element error) = IsBracketedError table text error
IsBracketedRejection table text Memory = Unit {0}
