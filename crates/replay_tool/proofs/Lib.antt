mod LineFront
