-- What is wrong with a file's form: "16 keeps the wrong tag; 19 cut, 20 too long, 21 needless group, 22 left over".
use Rattle.std.specs.Prelude.{ℕ}

abbrev pub wrong_tag : ℕ
wrong_tag = 16

abbrev pub cut_off : ℕ
cut_off = 19

abbrev pub overlong : ℕ
overlong = 20

abbrev pub needless_group : ℕ
needless_group = 21

abbrev pub left_over : ℕ
left_over = 22
