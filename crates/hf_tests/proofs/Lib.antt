mod OneCell
