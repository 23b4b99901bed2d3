-- The numbers by which a caller chooses.
use Rattle.std.specs.Prelude.{◌≡◌, ◌≤◌, ℕ, ◌&&◌, nat_le, if◌then◌else◌, Option, Some, None, Bool, true, false}
use Rattle.gs_translate.specs.declared.form.Form.{Form}
use Rattle.gs_translate.specs.declared.form.Form.TheVariants as form
use Rattle.gs_translate.specs.declared.form.Target.{Target}
use Rattle.gs_translate.specs.declared.form.Target.TheVariants as target

-- trusted, own: holds if a choice of so many bytes has both forms, and no option that is not known
abbrev pub is_size : ℕ → Bool
is_size size = nat_le 10 size && nat_le size 16

-- trusted, own: the number of an option that ends at a byte of a choice, or its default if the choice is shorter
abbrev pub given : ℕ → ℕ → ℕ → ℕ → ℕ
given size end code default = if nat_le end size then code else default

-- trusted, own: the number of a form
abbrev pub form_code : Form → ℕ
form_code form.Hex = 0
form_code form.Tag = 1
form_code form.Pure = 2
form_code form.Raw = 3
form_code form.Bracketed = 4
form_code form.Link = 5

-- trusted, own: the number of a target
abbrev pub target_code : Target → ℕ
target_code target.Hex = 0
target_code target.Tag = 1
target_code target.Pure = 2
target_code target.Raw = 3
target_code target.Bracketed = 4
target_code target.Link = 5
target_code target.Canon = 6

-- trusted, own: holds if this is the filter value of a number
abbrev pub IsFilter : ℕ → Option ℕ → Type 0
IsFilter code None = code ≡ 255
IsFilter code (Some n) = (code ≤ 7) × (n ≡ code)

-- trusted, own: holds if this is the length of the company prefix of a number
abbrev pub IsGcp : ℕ → Option ℕ → Type 0
IsGcp code None = code ≡ 0
IsGcp code (Some n) = (1 ≤ code) × ((code ≤ 12) × (n ≡ code))

-- trusted, own: holds if this is the flag of a number
abbrev pub IsFlag : ℕ → Bool → Type 0
IsFlag code false = code ≡ 0
IsFlag code true = code ≡ 1
