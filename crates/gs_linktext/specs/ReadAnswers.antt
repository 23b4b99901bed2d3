-- The answers of reading.
use Rattle.std.specs.Prelude.{◌≡◌, ◌≢◌, ℕ, List, ◌⊎◌, Some, None}
use Rattle.gs_linkset.specs.declared.link_types.Context.{Context}
use Rattle.gs_linkset.specs.declared.link_types.Target.{Target}
use Rattle.gs_linktext.specs.Contexts.{IsCut}
use Rattle.gs_linktext_grammar.specs.Grammar.{IsDocument}
use Rattle.gs_linktext.specs.Links.{first_error, IsLinksOf}
use Rattle.gs_linktext_grammar.specs.declared.error.LinkTextFault.{LinkTextFault}
use Rattle.gs_linktext_grammar.specs.declared.error.LinkTextFault.TheVariants.{Syntax, Anchor, Rel, Memory}
use Rattle.gs_linktext_grammar.specs.declared.written_link.WrittenLink.{WrittenLink}

-- trusted, own: holds if `bytes` are a document of links without an error, and `contexts` are the cut of its links
pub record IsReadAs (bytes : List ℕ) (contexts : List Context) : Type 0 where
  pub written : List WrittenLink
  pub document : IsDocument bytes written
  pub error_free : first_error 0 written ≡ None
  pub links : List (List ℕ × List ℕ × Target)
  pub given : IsLinksOf written links
  pub cut : IsCut links contexts

-- trusted, own: holds if `bytes` are a document whose first error is `error`
abbrev pub HasFirstError : List ℕ → LinkTextFault → Type 0
HasFirstError bytes error = (written : List WrittenLink) × IsDocument bytes written × (first_error 0 written ≡ Some error)

-- trusted, own: holds if the error is `Memory`, `Syntax` for bytes that are not a document, or the first error of a document
abbrev pub IsReadError : List ℕ → LinkTextFault → Type 0
IsReadError bytes Syntax = (written : List WrittenLink) → IsDocument bytes written → ⊥
IsReadError bytes (Anchor i) = HasFirstError bytes (Anchor i)
IsReadError bytes (Rel i) = HasFirstError bytes (Rel i)
IsReadError bytes Memory = Unit {0}

-- trusted, own: holds if `bytes` are a document of links without an error, which gives `links`
pub record IsTextOf (bytes : List ℕ) (links : List (List ℕ × List ℕ × Target)) : Type 0 where
  pub written : List WrittenLink
  pub document : IsDocument bytes written
  pub error_free : first_error 0 written ≡ None
  pub given : IsLinksOf written links

-- trusted, own: holds if the errors `f` and `g` are equal, or one of them is `Memory`
abbrev pub IsSameOrMemory : LinkTextFault → LinkTextFault → Type 0
IsSameOrMemory f g = (f ≡ g) ⊎ ((f ≡ Memory) ⊎ (g ≡ Memory))

-- trusted, own: holds if reading the text has a result other than `Memory`: the contexts of a linkset, or an error
abbrev pub HasReading : List ℕ → Type 0
HasReading bytes =
    ((contexts : List Context) × IsReadAs bytes contexts) ⊎ ((error : LinkTextFault) × (error ≢ Memory) × IsReadError bytes error)
