-- The built-in rows of application identifiers: those of GS1 General Specifications, section 3, that are met most. The choice is
-- this project's own.
use Rattle.std.specs.Prelude.{ℕ, Bool, true, false, List, [], ◌∷◌, ◌++◌, codes}
use Rattle.gs_ai.specs.declared.part.Part.{Part}
use Rattle.gs_ai.specs.declared.part.Part.TheVariants as part
use Rattle.gs_ai.specs.declared.part.Role.TheVariants as role
use Rattle.gs_ai.specs.declared.row.AiRow.{AiRow}

-- trusted, own: the row of an attribute with one part
abbrev pub attribute : List ℕ → Part → AiRow
attribute code p = record { code = code; parts = p ∷ []; role = role.Attribute; qualifiers = []; short = false; none = [] }

-- trusted, own: the row of a key qualifier with one part and the text that means none
abbrev pub qualifier : List ℕ → Part → List ℕ → AiRow
qualifier code p none = record { code = code; parts = p ∷ []; role = role.Qualifier; qualifiers = []; short = false; none = none }

-- trusted, own: the row of a key with its parts and qualifiers, and whether a link may have it short
abbrev pub key : List ℕ → List Part → List (List ℕ) → Bool → AiRow
key code parts qualifiers short = record { code = code; parts = parts; role = role.Key; qualifiers = qualifiers; short = short; none = [] }

-- trusted, GS1 General Specifications, section 3; the choice is own: the list of all rows, in ascending order of their codes
unfoldable pub builtin_ais : List AiRow
builtin_ais =
    key (codes "00") (part.NumCheck 18 ∷ []) [] false
    ∷ key (codes "01") (part.NumCheck 14 ∷ []) (codes "22" ∷ codes "10" ∷ codes "21" ∷ []) true
    ∷ attribute (codes "02") (part.NumCheck 14)
    ∷ qualifier (codes "10") (part.Set 20) []
    ∷ attribute (codes "11") part.Date ∷ attribute (codes "12") part.Date ∷ attribute (codes "13") part.Date
    ∷ attribute (codes "15") part.Date ∷ attribute (codes "16") part.Date ∷ attribute (codes "17") part.Date
    ∷ attribute (codes "20") (part.Num 2)
    ∷ qualifier (codes "21") (part.Set 20) [] ∷ qualifier (codes "22") (part.Set 20) []
    ∷ attribute (codes "30") (part.NumUpTo 8) ∷ attribute (codes "37") (part.NumUpTo 8)
    ∷ attribute (codes "240") (part.Set 30) ∷ attribute (codes "241") (part.Set 30)
    ∷ attribute (codes "250") (part.Set 30) ∷ attribute (codes "251") (part.Set 30)
    ∷ key (codes "253") (part.NumCheck 13 ∷ part.SetOpt 17 ∷ []) [] false
    ∷ qualifier (codes "254") (part.Set 20) (codes "0")
    ∷ key (codes "255") (part.NumCheck 13 ∷ part.NumOpt 12 ∷ []) [] false
    ∷ attribute (codes "3100") (part.Num 6) ∷ attribute (codes "3101") (part.Num 6) ∷ attribute (codes "3102") (part.Num 6)
    ∷ attribute (codes "3103") (part.Num 6) ∷ attribute (codes "3104") (part.Num 6) ∷ attribute (codes "3105") (part.Num 6)
    ∷ attribute (codes "400") (part.Set 30)
    ∷ key (codes "401") (part.Set 30 ∷ []) [] false
    ∷ key (codes "402") (part.NumCheck 17 ∷ []) [] false
    ∷ attribute (codes "403") (part.Set 30)
    ∷ attribute (codes "410") (part.NumCheck 13) ∷ attribute (codes "411") (part.NumCheck 13)
    ∷ attribute (codes "412") (part.NumCheck 13) ∷ attribute (codes "413") (part.NumCheck 13)
    ∷ key (codes "414") (part.NumCheck 13 ∷ []) (codes "254" ∷ []) false
    ∷ attribute (codes "415") (part.NumCheck 13) ∷ attribute (codes "416") (part.NumCheck 13)
    ∷ key (codes "417") (part.NumCheck 13 ∷ []) [] false
    ∷ key (codes "8003") (part.Zero ∷ part.NumCheck 13 ∷ part.SetOpt 16 ∷ []) [] false
    ∷ key (codes "8004") (part.Set 30 ∷ []) [] false
    ∷ key (codes "8006") (part.NumCheck 14 ∷ part.Num 2 ∷ part.Num 2 ∷ []) (codes "22" ∷ codes "10" ∷ codes "21" ∷ []) false
    ∷ key (codes "8017") (part.NumCheck 18 ∷ []) (codes "8019" ∷ []) false
    ∷ key (codes "8018") (part.NumCheck 18 ∷ []) (codes "8019" ∷ []) false
    ∷ qualifier (codes "8019") (part.NumUpTo 10) []
    ∷ attribute (codes "8020") (part.Set 25)
    ∷ attribute (codes "90") (part.Set 30)
    ∷ attribute (codes "91") (part.Set 90) ∷ attribute (codes "92") (part.Set 90) ∷ attribute (codes "93") (part.Set 90)
    ∷ attribute (codes "94") (part.Set 90)
    ∷ attribute (codes "95") (part.Set 90) ∷ attribute (codes "96") (part.Set 90) ∷ attribute (codes "97") (part.Set 90)
    ∷ attribute (codes "98") (part.Set 90) ∷ attribute (codes "99") (part.Set 90) ∷ []
