-- How a proof stores texts, and lists of them.
use Rattle.std.specs.Prelude.{ℕ, List}
use Rattle.std.specs.Coded.{Coded, coded_list, coded_ℕ}

abbrev pub text_code : Coded (List ℕ)
text_code = coded_list coded_ℕ

abbrev pub texts_code : Coded (List (List ℕ))
texts_code = coded_list text_code
