-- Elements that begin a line and end it (our own).
use Rattle.std.specs.Prelude.{ℕ, Bool, List, [], ◌∷◌, codes}
use Rattle.std.specs.List.{list_any}
use Rattle.std.specs.Str.{bytes_eq}

-- the names of these elements, as they are written
unfoldable pub breaking_names : List (List ℕ)
breaking_names =
    codes "address" ∷ codes "article" ∷ codes "aside" ∷ codes "blockquote" ∷ codes "body" ∷ codes "br" ∷ codes "dd" ∷ codes "div"
    ∷ codes "dl" ∷ codes "dt" ∷ codes "figcaption" ∷ codes "figure" ∷ codes "footer" ∷ codes "h1" ∷ codes "h2" ∷ codes "h3"
    ∷ codes "h4" ∷ codes "h5" ∷ codes "h6" ∷ codes "header" ∷ codes "hr" ∷ codes "html" ∷ codes "li" ∷ codes "main"
    ∷ codes "nav" ∷ codes "ol" ∷ codes "p" ∷ codes "pre" ∷ codes "section" ∷ codes "table" ∷ codes "tr" ∷ codes "ul" ∷ []

-- an element of this name begins a line and ends it
abbrev pub is_breaking : List ℕ → Bool
is_breaking name = list_any (bytes_eq name) breaking_names
