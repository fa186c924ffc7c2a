-- The figures one after another: each game begins with the figure for one pair less.
use Rattle.std.proofs.Common.{◌≡◌, refl, sym, ◌∙◌, ap, ℕ, suc, ◌+◌, ◌≤◌, List, [], ◌∷◌, ◌++◌, append_assoc, add-one, arith}
use Rattle.std.proofs.Common.{length, get_or, drop, set}
use lib.Seq.{drop-cons, set_at}
use Rattle.scope.specs.Limits.{most_links}
use Rattle.scope.specs.Plan.{plan_of}
use Rattle.scope.specs.Game.{IsLeast, figure, figures}
use Rattle.laws.proofs.Cuts.{all_arrive_without_cuts_lem}
use Rattle.order.proofs.Game.{is-figure, figures-length, figures-more}
use Rattle.rows.proofs.Parts.{timeout-is}
use Rattle.picks.proofs.Picking.{holding-none}
use Rattle.board.specs.declared.Board.{Board}
use Rattle.board.specs.Lent.{Lent}
use Rattle.game.specs.Turns.{Reached, MayPlay}
use Rattle.game.proofs.Leaving.{reached-more}
use Rattle.figures.specs.Figures.{MayFill}

-- the figures for fewer than j pairs stand at the front, and `least` is the last of them, or how many messages there are
pub record Rising (row entry out : List ℕ) (messages least j : ℕ) : Type 0 where
  pub stands : out ≡ figures (plan_of row) 0 j ++ drop j entry
  pub low : least ≤ messages
  pub reached : Reached (plan_of row) j least

-- a number that is the least is reached
reaches : (row : List ℕ) (k f : ℕ) → IsLeast (plan_of row) k f → Reached (plan_of row) k f
reaches row k f l = record { list = l.list; good = l.good; few = l.few; is = l.reached }

module _ (row : List ℕ) (k : ℕ) (entry : List ℕ) (m : MayFill row k (length entry)) (board : Board) (lent : Lent row board) where
  pub rises_first : Rising row entry entry board.sizes.messages board.sizes.messages 0
  unfolding figures
  rises_first =
      record {
        stands = refl;
        low = omega arith;
        reached =
            record {
              list = [];
              good = (holding-none row board.table board.sizes lent.laid.play).chosen.good;
              few = omega arith;
              is = all_arrive_without_cuts_lem (plan_of row) m.good.keeps ∙ sym lent.laid.play.messages;
            };
      }

  module _ (out : List ℕ) (least j : ℕ) (g : Rising row entry out board.sizes.messages least j) (early : j ≤ k) where
    pub may-play : MayPlay row board j least
    may-play =
        record {
          lent = lent;
          few = omega (arith, m.few);
          some = omega (arith, lent.laid.play.timeout, timeout-is row);
          low = g.low;
          reached = g.reached;
        }

    module _ (r : ℕ) (told : IsLeast (plan_of row) j r × (r ≤ least)) where
      small : length (plan_of row).links ≤ most_links
      small = omega (arith, lent.laid.play.links, lent.laid.play.few)

      here : r ≡ figure (plan_of row) (0 + j)
      here = let e : j ≡ 0 + j = omega arith in is-figure (plan_of row) small j r told.0 ∙ ap (figure (plan_of row)) e

      pub rises_on : Rising row entry (set out j r) board.sizes.messages r (j + 1)
      rises_on =
          let more : j + 1 ≡ suc j = add-one j in
          record {
            stands =
                ap (λ (l : List ℕ). set l j r) g.stands ∙
                rw (
                  drop-cons entry j 0 (omega (arith, m.enough)),
                  set_at (figures (plan_of row) 0 j) (get_or entry j 0) (drop (suc j) entry) r j (figures-length (plan_of row) 0 j),
                  add-one,
                )
                (sym
                (ap (λ (l : List ℕ). l ++ drop (suc j) entry) (ap (λ (n : ℕ). figures (plan_of row) 0 n) (sym more) ∙
                figures-more (plan_of row) 0 j ∙
                ap (λ (f : ℕ). figures (plan_of row) 0 j ++ f ∷ []) (sym here)) ∙
                append_assoc (figures (plan_of row) 0 j) (r ∷ []) (drop (suc j) entry)));
            low = omega (arith, told.1, g.low);
            reached = reached-more (plan_of row) j (j + 1) r (omega arith) (reaches row j r told.0);
          }
