-- The grammar of linksets as text, over lexemes: RFC 8288, section 3; RFC 9110, section 5.6.1 (empty places in a list).
use Rattle.std.specs.Prelude.{◌≡◌, ℕ, Bool, true, false, ◌==◌, ◌&&◌, not, if◌then◌else◌, List, [], ◌∷◌, map, filter, length, Option, Some, None, option_map, option_and_then}
use Rattle.std.specs.Char.{to_ascii_lowercase}
use Rattle.std.specs.List.{slice_split}
use Rattle.std.specs.Str.{is_utf8}
use Rattle.gs_linkset.specs.Attributes.{every}
use Rattle.gs_linktext_grammar.specs.Lexemes.{Lexed}
use Rattle.gs_linktext_grammar.specs.declared.lexeme.Lexeme.{Lexeme}
use Rattle.gs_linktext_grammar.specs.declared.lexeme.Lexeme.TheVariants.{Comma, Semicolon, Equals, Word, Target, Quoted}
use Rattle.gs_linktext_grammar.specs.declared.written_link.Param.{Param}
use Rattle.gs_linktext_grammar.specs.declared.written_link.WrittenLink.{WrittenLink}

-- trusted, own: holds if the lexeme is a comma
abbrev pub is_comma : Lexeme → Bool
is_comma Comma = true
is_comma Semicolon = false
is_comma Equals = false
is_comma (Word w) = false
is_comma (Target h) = false
is_comma (Quoted v) = false

-- trusted, own: holds if the lexeme is a semicolon
abbrev pub is_semicolon : Lexeme → Bool
is_semicolon Comma = false
is_semicolon Semicolon = true
is_semicolon Equals = false
is_semicolon (Word w) = false
is_semicolon (Target h) = false
is_semicolon (Quoted v) = false

-- trusted, own: holds if the lexeme is an equals sign
abbrev pub is_equals : Lexeme → Bool
is_equals Comma = false
is_equals Semicolon = false
is_equals Equals = true
is_equals (Word w) = false
is_equals (Target h) = false
is_equals (Quoted v) = false

-- trusted, own: the word of a lexeme
abbrev pub name_in : Lexeme → Option (List ℕ)
name_in Comma = None
name_in Semicolon = None
name_in Equals = None
name_in (Word w) = Some w
name_in (Target h) = None
name_in (Quoted v) = None

-- trusted, RFC 8288, section 3: the value of a lexeme: a word, or the contents of a quoted string
abbrev pub value_in : Lexeme → Option (List ℕ)
value_in Comma = None
value_in Semicolon = None
value_in Equals = None
value_in (Word w) = Some w
value_in (Target h) = None
value_in (Quoted v) = Some v

-- trusted, RFC 8288, section 3: the reference of a lexeme
abbrev pub href_in : Lexeme → Option (List ℕ)
href_in Comma = None
href_in Semicolon = None
href_in Equals = None
href_in (Word w) = None
href_in (Target h) = if is_utf8 h then Some h else None
href_in (Quoted v) = None

-- trusted, own: holds if `part` has a lexeme, or a byte
abbrev pub is_some_part : {X : Type 0} → List X → Bool
is_some_part part = not (length part == 0)

-- trusted, RFC 8288, appendix B.3: the parameter with the letters of its name in lower case, if its texts are valid UTF-8
abbrev pub param_with : List ℕ → List ℕ → Option Param
param_with name value =
    if is_utf8 (map to_ascii_lowercase name) && is_utf8 value
    then Some (record { name = map to_ascii_lowercase name; value = value }) else None

-- trusted, own: the parameter of a name and a value, if there are both
abbrev pub param_by : Option (List ℕ) → Option (List ℕ) → Option Param
param_by name value = option_and_then (λ n. option_and_then (λ v. param_with n v) value) name

-- trusted, RFC 8288, section 3: The parameter of a name, or of a name, an equals sign and a value. Without one the value is
-- empty.
abbrev pub param_of : List Lexeme → Option Param
param_of [] = None
param_of (name ∷ []) = param_by (name_in name) (Some [])
param_of (name ∷ sign ∷ []) = None
param_of (name ∷ sign ∷ value ∷ []) = if is_equals sign then param_by (name_in name) (value_in value) else None
param_of (name ∷ sign ∷ value ∷ x ∷ xs) = None

-- trusted, own: the parameters of the parts that are not empty
abbrev pub params_of : List (List Lexeme) → Option (List Param)
params_of parts = every param_of (filter is_some_part parts)

-- trusted, RFC 8288, section 3: the target URI of a part that is nothing else
abbrev pub href_of : List Lexeme → Option (List ℕ)
href_of [] = None
href_of (x ∷ []) = href_in x
href_of (x ∷ y ∷ xs) = None

-- trusted, RFC 8288, section 3: The link of a reference, and parameters each after a semicolon. An empty one is ignored.
abbrev pub link_of : List (List Lexeme) → Option WrittenLink
link_of [] = None
link_of (head ∷ parts) =
    option_and_then (λ href. option_map (λ params. record { href = href; params = params }) (params_of parts)) (href_of head)

-- trusted, RFC 8288, section 3: the link of the lexemes between two commas
abbrev pub written_link : List Lexeme → Option WrittenLink
written_link piece = link_of (slice_split is_semicolon piece)

-- trusted, RFC 8288, section 3, and RFC 9110, section 5.6.1: the links of lexemes, between commas; an empty place is ignored
abbrev pub written_links : List Lexeme → Option (List WrittenLink)
written_links lexemes = every written_link (filter is_some_part (slice_split is_comma lexemes))

-- trusted, RFC 9264, section 4.1: holds if `text` is a document of `links`
abbrev pub IsDocument : List ℕ → List WrittenLink → Type 0
IsDocument text links = (lexemes : List Lexeme) × Lexed lexemes text × (written_links lexemes ≡ Some links)

-- trusted, RFC 8288, appendix B.1: holds if `text` is not a document
abbrev pub IsNoDocument : List ℕ → Type 0
IsNoDocument text = (links : List WrittenLink) → IsDocument text links → ⊥
