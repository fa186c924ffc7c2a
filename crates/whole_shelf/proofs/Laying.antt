-- The loop over the names: what came under those that are passed has its lines, and is in the sums.
use Prim.Native.Nat.{ℕ, zero, suc, ◌+◌, ◌-◌, ◌^◌, ◌≤◌, ◌<◌}
use native.Mathlib.Omega.{arith}
use mathlib.Core.Path.{◌≡◌, refl, sym, ◌∙◌, ap, subst}
use mathlib.Core.List.{List, [], ◌∷◌, ◌++◌, map, append-nil, append_assoc}
use lib.ListN.{length, take, drop, length-append, length-map}
use lib.Seq.{get_or_at}
use Rattle.scope.specs.Limits.{most_names, longest_name}
use Rattle.scope.specs.Shelf.{Shelved, Rated, names_of, name_of, rate, plan_line, plan_lines, ratings, sheet}
use Rattle.text.specs.Text.{Puts, Told}
use Rattle.text.proofs.Laid.{length-laid, puts_none, then}
use Rattle.names.specs.Names.{name_end}
use Rattle.names.proofs.Names.{names-next, names-end, end-most}
use Rattle.names.proofs.Check.{Checked, checked}
use Rattle.sheet_lines.specs.declared.Tally.{Tally}
use Rattle.sheet_lines.specs.Sheet.{names_on, tally_lines}
use Rattle.sheet_lines.specs.Tally.{sums, Tallies}
use Rattle.sheet_lines.proofs.Lines.{tally_lines_lem}
use Rattle.sheet_lines.proofs.Room.{Short, plan_lines_size, sums-told}
use Rattle.shelf_text.specs.declared.Laid.{Laid}
use Rattle.shelf_text.specs.Lines.{MayLay}
use Rattle.whole_shelf.specs.Shown.{AllCame, none, more, ReadAndLaid, MayRead, Sheets}

-- the names before an index are passed
pub record Laying (input entry out : List ℕ) (t : Tally) (next from done : ℕ) : Type 0 where
  pub read : List Shelved
  pub came : AllCame read
  pub names : names_on read ++ names_of (drop from input) ≡ names_of input
  pub puts : Puts (plan_lines read) entry out 0 next
  pub tallies : Tallies (ratings read) t
  pub count : done ≡ length read
  pub within : from ≤ length input + 1

-- one line more, and one plan more
lines_more : (read : List Shelved) (s : Shelved) → plan_lines (read ++ (s ∷ [])) ≡ plan_lines read ++ plan_line s
unfolding plan_lines
lines_more [] s = append-nil (plan_line s)
lines_more (r ∷ read) s = ap (λ (rest : List ℕ). plan_line r ++ rest) (lines_more read s) ∙ sym (append_assoc (plan_line r) (plan_lines read)
    (plan_line s))

map_more : {B : Type 0} (f : Shelved → B) (read : List Shelved) (s : Shelved) → map f (read ++ (s ∷ [])) ≡ map f read ++ (f s ∷ [])
map_more f [] s = refl
map_more f (r ∷ read) s = ap (λ (rest : List _). f r ∷ rest) (map_more f read s)

-- names that stand before others
front-name : (a b : List (List ℕ)) (i : ℕ) → i < length a → name_of (a ++ b) i ≡ name_of a i
front-name [] b i h = absurd (omega arith)
front-name (x ∷ a) b zero h = refl
front-name (x ∷ a) b (suc i) h = front-name a b i (omega arith)

pub laying_first : (input entry : List ℕ) (t : Tally) → Tallies [] t → Laying input entry entry t 0 0 0
unfolding plan_lines
laying_first input entry t tallies =
    record {
      read = [];
      came = none;
      names = refl;
      puts = puts_none entry 0;
      tallies = tallies;
      count = refl;
      within = omega arith;
    }

pub same-room : (input entry out : List ℕ) (t : Tally) (next from done : ℕ) → Laying input entry out t next from done →
    length out ≡ length entry
same-room input entry out t next from done g = ap length g.puts.buffer ∙ length-laid entry 0 (plan_lines g.read)

module _ (input : List ℕ) (count : ℕ) (may : MayRead input count) where
  are : Checked (names_of input) count
  are = checked (names_of input) count may.checked

  module _ (entry out : List ℕ) (t : Tally) (next from done : ℕ) (g : Laying input entry out t next from done) where
    on_shelf : length (names_on g.read) ≡ length g.read
    on_shelf = length-map g.read (λ (s : Shelved). s.name)

    all : length (names_on g.read) + length (names_of (drop from input)) ≡ length (names_of input)
    all = sym (length-append (names_on g.read) (names_of (drop from input))) ∙ ap length g.names

    pub few : length g.read ≤ most_names
    few = omega (arith, on_shelf, all, are.few)

    short : Short (names_on g.read)
    short i h =
        let same : name_of (names_of input) i ≡ name_of (names_on g.read) i =
        ap (λ (ns : List (List ℕ)). name_of ns i) (sym g.names) ∙ front-name (names_on g.read) (names_of (drop from input)) i h in
        subst (λ (name : List ℕ). length name ≤ longest_name) same (are.each i (omega (arith, all))).short

    pub early : next < 2 ^ 63
    early = omega (arith, g.puts.ends, plan_lines_size g.read short, few)

    pub may-sum : Told next (tally_lines t 0 sums)
    may-sum = sums-told t next early

    pub laid-all : (exit : List ℕ) (r : ℕ) → length input ≤ from → Puts (tally_lines t 0 sums) out exit next r → Sheets input entry exit r
    unfolding sheet
    laid-all exit r over last =
        record {
          read = g.read;
          came = g.came;
          names =
              sym (append-nil (names_on g.read)) ∙ ap (λ (ns : List (List ℕ)). names_on g.read ++ ns) (sym (names-end input from over)) ∙
              g.names;
          puts =
              then g.puts
              (subst (λ (s : List ℕ). Puts s out exit next r) (tally_lines_lem (ratings g.read) t g.tallies 0 sums (omega arith)) last);
        }

    module _ (l : from < length input) (end : ℕ) (is : end ≡ name_end input from) where
      abbrev name : List ℕ
      name = take (name_end input from - from) (drop from input)

      pub end-within : end ≤ length input
      end-within = omega (arith, end-most input from (omega arith))

      pub end_after : from ≤ end
      end_after = omega arith

      this_name : names_on g.read ++ (name ∷ names_of (drop (name_end input from + 1) input)) ≡ names_of input
      this_name = ap (λ (ns : List (List ℕ)). names_on g.read ++ ns) (sym (names-next input from l)) ∙ g.names

      -- this line of the input, as it is lent
      pub may_lay : (x : List ℕ) → x ≡ take (end - from) (drop from input) → MayLay x t next
      may_lay x h =
          let here : x ≡ name = h ∙ ap (λ (e : ℕ). take (e - from) (drop from input)) is in
          let size = on_shelf in
          let one : length {A = List ℕ} (name ∷ names_of (drop (name_end input from + 1) input)) ≡
          suc (length (names_of (drop (name_end input from + 1) input))) = refl in
          let there : length g.read < length (names_of input) =
          omega (
            arith,
            sym (length-append (names_on g.read) (name ∷ names_of (drop (name_end input from + 1) input))) ∙ ap length this_name,
          ) in
          let found : name_of (names_of input) (length g.read) ≡ name =
          ap (λ (ns : List (List ℕ)). name_of ns (length g.read)) (sym this_name) ∙
          get_or_at (names_on g.read) name (names_of (drop (name_end input from + 1) input)) [] (length g.read) on_shelf in
          record {
            short =
                subst (λ (y : List ℕ). length y ≤ longest_name) (found ∙ sym here) (are.each (length g.read) there).short;
            early = early;
            plans = ratings g.read;
            tallies = g.tallies;
            few = omega (arith, few, length-map g.read (λ (s : Shelved). rate s.file));
          }

      pub laying_on : (x out' : List ℕ) (r : Laid) → x ≡ take (end - from) (drop from input) → ReadAndLaid x t out out' next r →
          Laying input entry out' r.tally r.next (end + 1) (done + 1)
      laying_on x out' r h told =
          let here : x ≡ name = h ∙ ap (λ (e : ℕ). take (e - from) (drop from input)) is in
          let s : Shelved = record { name = x; file = take told.n told.buffer } in
          let size : length (g.read ++ (s ∷ [])) ≡ length g.read + 1 = length-append g.read (s ∷ []) in
          record {
            read = g.read ++ (s ∷ []);
            came = more g.read g.came x told.buffer told.n told.came told.long;
            names =
                ap (λ (ns : List (List ℕ)). ns ++ names_of (drop (end + 1) input)) (map_more (λ (y : Shelved). y.name) g.read s) ∙
                append_assoc (names_on g.read) (x ∷ []) (names_of (drop (end + 1) input)) ∙
                ap (λ (y : List ℕ). names_on g.read ++ (y ∷ names_of (drop (end + 1) input))) here ∙
                ap (λ (e : ℕ). names_on g.read ++ (name ∷ names_of (drop (e + 1) input))) is ∙ this_name;
            puts =
                subst (λ (text : List ℕ). Puts text entry out' 0 r.next) (sym (lines_more g.read s)) (then g.puts told.lays.puts);
            tallies =
                subst (λ (ps : List Rated). Tallies ps r.tally) (sym (map_more (λ (y : Shelved). rate y.file) g.read s))
                (told.lays.adds (ratings g.read) g.tallies);
            count = omega (arith, g.count, size);
            within = omega (arith, end-within);
          }
