-- The conditions that the forms have on tables, for the laws about every text.
use Rattle.gs_tables.specs.Judgements.{IsLoaded}
use Rattle.gs_tables.specs.Tables.{IsShaped, TableRows}
use Rattle.gs_translate.specs.declared.form.Form.{Form}
use Rattle.gs_translate.specs.declared.form.Form.TheVariants.{Raw, Bracketed, Link}

-- trusted, own: holds if the form is not an element string, or no rule of tables rejects the rows of `set`
abbrev pub AsksForOne : Form → TableRows → Type 0
AsksForOne Raw set = IsShaped set
AsksForOne Bracketed set = IsShaped set
AsksForOne _ set = Unit {0}

-- trusted, own: Holds if the form is a link, or no rule of tables rejects the rows of `set`. For tags and EPC URIs, moreover,
-- no level is ambiguous.
abbrev pub AsksForSome : Form → TableRows → Type 0
AsksForSome Raw set = IsShaped set
AsksForSome Bracketed set = IsShaped set
AsksForSome Link set = Unit {0}
AsksForSome _ set = IsLoaded set
